-- A list is the same from both ends where each ply of its first half is that of the same place from the end.
use Rattle.std.proofs.Common.{◌≡◌, sym, ◌∙◌, ap, ℕ, ◌-◌, ◌/◌, ◌<◌, List, reverse, length, get_or, inl, inr, arith}
use Rattle.std.proofs.lemmas.Bool.{cases_lt}
use Rattle.std.proofs.lemmas.List.{same_lists, get_or-reverse, length-reverse}
use Rattle.lam_stock.specs.declared.item.ItemNo.{ItemNo}
use Rattle.lam_job.specs.Rules.{IsPalindrome}

at_each : (plies : List ItemNo)
    → ((k : ℕ) (d : ItemNo) → k < length plies / 2 → get_or plies k d ≡ get_or plies (length plies - 1 - k) d)
    → (k : ℕ) (d : ItemNo) → k < length plies → get_or plies k d ≡ get_or plies (length plies - 1 - k) d
at_each plies half k d within =
    elim (cases_lt k (length plies / 2)) [
      | inl low ↦ half k d low
      | inr high ↦ elim (cases_lt (length plies - 1 - k) (length plies / 2)) [
        | inl low ↦ (let same : k ≡ length plies - 1 - (length plies - 1 - k) = omega arith in
            ap (λ n. get_or plies n d) same ∙ sym (half (length plies - 1 - k) d low))
        | inr middle ↦ (let same : k ≡ length plies - 1 - k = omega arith in ap (λ n. get_or plies n d) same)
      ]
    ]

pub palindrome-from_half : (plies : List ItemNo)
    → ((k : ℕ) (d : ItemNo) → k < length plies / 2 → get_or plies k d ≡ get_or plies (length plies - 1 - k) d) → IsPalindrome plies
palindrome-from_half plies half =
    same_lists plies (reverse plies) (sym (length-reverse plies)) (λ k d within. at_each plies half k d within ∙ sym (get_or-reverse plies k d within))

pub palindrome-at : (plies : List ItemNo) → IsPalindrome plies → (k : ℕ) (d : ItemNo) → k < length plies
    → get_or plies k d ≡ get_or plies (length plies - 1 - k) d
palindrome-at plies same k d within = ap (λ xs. get_or xs k d) same ∙ get_or-reverse plies k d within
