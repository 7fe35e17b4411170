-- A full partial is completed by its fixed plies, and by no other schedule.
use Rattle.std.proofs.Common.{◌≡◌, refl, sym, ◌∙◌, ap, subst, ℕ, suc, ◌+◌, ◌-◌, ◌/◌, ◌≤◌, List, [], ◌∷◌, ◌++◌, reverse, length, take, drop, All, Bool, true, false, IsTrue, if◌then◌else◌, arith}
use Rattle.std.proofs.lemmas.List.{reverse-append, reverse-reverse, length-reverse, length-append, length-take-le, length-drop, take-append-drop, take-append-le, append_assoc}
use Rattle.std.proofs.lemmas.List.Elements.{All-append, All-take, All-cons, All-tail, All-nil}
use Rattle.std.proofs.Math.Seq.{take-append_seam, take-length, drop-append_seam}
use Rattle.lam_stock.specs.declared.item.Item.{Item}
use Rattle.lam_stock.specs.declared.item.ItemNo.{ItemNo}
use Rattle.lam_job.specs.JobData.{JobData}
use Rattle.lam_stock.specs.Stock.{IsKnown}
use Rattle.lam_job.specs.Rules.{IsPalindrome}
use Rattle.lam_job.specs.Partial.{Partial, Completes, IsFull, half_of, completion}

-- a list of one item at most is its own mirror image
short : (plies : List ItemNo) → length plies ≤ 1 → reverse plies ≡ plies
short [] h = refl
short (x ∷ []) h = refl
short (x ∷ y ∷ rest) h = absurd (let n : suc (suc (length rest)) ≤ 1 = h in omega (arith, n))

-- a list and the mirror image of all of it, or of all but its last ply, is a palindrome
mirrored : (k : ℕ) (plies : List ItemNo) → length plies ≤ k + 1 → IsPalindrome (plies ++ reverse (take k plies))
mirrored k plies high =
    let t = take k plies in
    let d = drop k plies in
    sym (reverse-append plies (reverse t)
    ∙ ap (λ l. l ++ reverse plies) (reverse-reverse t)
    ∙ ap (λ l. t ++ reverse l) (sym (take-append-drop k plies))
    ∙ ap (λ l. t ++ l) (reverse-append t d)
    ∙ ap (λ l. t ++ (l ++ reverse t)) (short d (let e = length-drop k plies in omega (arith, e, high)))
    ∙ sym (append_assoc t d (reverse t))
    ∙ ap (λ l. l ++ reverse t) (take-append-drop k plies))

-- what is so of all plies is so of their mirror image
all_mirrored : (P : ItemNo → Type 0) (plies : List ItemNo) → All P plies → All P (reverse plies)
all_mirrored P [] all = All-nil P
all_mirrored P (x ∷ rest) all =
    subst (All P) (sym (reverse-append (x ∷ []) rest))
    (All-append P (reverse rest) (x ∷ []) (all_mirrored P rest (All-tail P x rest all)) (All-cons P x [] (all 0 x (omega arith)) (All-nil P)))

-- the fixed plies of a partial, by whether schedules are symmetric
abbrev fixed : Bool → Partial → List ItemNo
fixed symmetric p = if symmetric then p.prefix ++ reverse (take (p.n - length p.prefix) p.prefix) else p.prefix

all_places : (symmetric : Bool) (p : Partial) → length p.prefix ≡ half_of symmetric p.n → length (fixed symmetric p) ≡ p.n
all_places false p full = full
all_places true p full =
    let k = p.n - length p.prefix in
    let f : length p.prefix ≡ (p.n + 1) / 2 = full in
    length-append p.prefix (reverse (take k p.prefix))
    ∙ ap (λ n. length p.prefix + n) (length-reverse (take k p.prefix) ∙ length-take-le k p.prefix (omega (arith, f)))
    ∙ omega (arith, f)

begins_so : (symmetric : Bool) (p : Partial) → take (length p.prefix) (fixed symmetric p) ≡ p.prefix
begins_so false p = take-length p.prefix
begins_so true p = take-append_seam p.prefix (reverse (take (p.n - length p.prefix) p.prefix))

palindrome : (symmetric : Bool) (p : Partial) → length p.prefix ≡ half_of symmetric p.n → IsTrue symmetric → IsPalindrome (fixed symmetric p)
palindrome false p full is = absurd (let e : false ≡ true = is in cc)
palindrome true p full is = let f : length p.prefix ≡ (p.n + 1) / 2 = full in mirrored (p.n - length p.prefix) p.prefix (omega (arith, f))

all_known : (stock : List Item) (symmetric : Bool) (p : Partial) → IsKnown stock p.prefix → IsKnown stock (fixed symmetric p)
all_known stock false p known = known
all_known stock true p known =
    let P = λ (ply : ItemNo). suc ply.0 ≤ length stock in
    let k = p.n - length p.prefix in
    All-append P p.prefix (reverse (take k p.prefix)) known (all_mirrored P (take k p.prefix) (All-take P k p.prefix known))

-- a full partial of 1 to the limit's plies, all of the catalogue, has its completion
pub completes_full : (stock : List Item) (job : JobData) (p : Partial) → 1 ≤ p.n → p.n ≤ job.limit → IsKnown stock p.prefix → IsFull job p
    → Completes stock job p (completion job p)
completes_full stock job p some short known full =
    let symmetric = job.rules.symmetric in
    let long = all_places symmetric p full in
    record {
      sequence = record {
        some = subst (λ n. 1 ≤ n) (sym long) some;
        short = subst (λ n. n ≤ job.limit) (sym long) short;
        known = all_known stock symmetric p known;
      };
      long = long;
      begins = begins_so symmetric p;
      symmetric = palindrome symmetric p full;
    }

-- ---- it has no other completion

-- the plies behind the first h of a palindrome are the mirror image of as many at its start
behind : (h k : ℕ) (plies : List ItemNo) → IsPalindrome plies → length plies ≡ h + k → drop h plies ≡ reverse (take k plies)
behind h k plies same long =
    let t = take k plies in
    let d = drop k plies in
    let turned : plies ≡ reverse d ++ reverse t = same ∙ ap reverse (sym (take-append-drop k plies)) ∙ reverse-append t d in
    let first : length (reverse d) ≡ h = length-reverse d ∙ (let e = length-drop k plies in omega (arith, e, long)) in
    ap (drop h) turned ∙ ap (λ n. drop n (reverse d ++ reverse t)) (sym first) ∙ drop-append_seam (reverse d) (reverse t)

settled : (symmetric : Bool) (p : Partial) (listed : List ItemNo) → length p.prefix ≡ half_of symmetric p.n → length listed ≡ p.n
    → take (length p.prefix) listed ≡ p.prefix → (IsTrue symmetric → IsPalindrome listed) → listed ≡ fixed symmetric p
settled false p listed full long begins mirrors =
    sym (take-length listed) ∙ ap (λ n. take n listed) (long ∙ sym full) ∙ begins
settled true p listed full long begins mirrors =
    let h = length p.prefix in
    let k = p.n - h in
    let f : h ≡ (p.n + 1) / 2 = full in
    let split = take-append-drop h listed in
    let start : take k listed ≡ take k p.prefix
    = ap (take k) (sym split ∙ ap (λ l. l ++ drop h listed) begins) ∙ take-append-le k p.prefix (drop h listed) (omega (arith, f)) in
    sym split
    ∙ ap (λ l. l ++ drop h listed) begins
    ∙ ap (λ l. p.prefix ++ l) (behind h k listed (mirrors refl) (omega (arith, long, f)) ∙ ap reverse start)

-- whatever completes a full partial is its completion
pub only_completion : (stock : List Item) (job : JobData) (p : Partial) (listed : List ItemNo) → IsFull job p
    → Completes stock job p listed → listed ≡ completion job p
only_completion stock job p listed full c = settled job.rules.symmetric p listed full c.long c.begins c.symmetric
