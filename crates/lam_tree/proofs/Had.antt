-- How many items a split has not had.
use Rattle.std.proofs.Common.{◌≡◌, refl, sym, ◌∙◌, ap, subst, ℕ, zero, suc, ◌+◌, ◌<◌, ◌≤◌, ◌||◌, nat_lt, not, ◌&&◌, Bool, true, false, cond, Some, None, inl, inr, arith}
use Rattle.std.proofs.lemmas.Bool.{cases_eq, eq-eqb, ne_eqb, ltb-true, not-true, and_parts}
use Rattle.lam_stock.specs.declared.item.ItemNo.{ItemNo}
use Rattle.lam_tree.specs.declared.node.Seat.{Seat}
use Rattle.lam_tree.specs.declared.node.Seat.TheVariants.{Length, Item}
use Rattle.lam_tree.specs.Reading.{none_had, and_had, due_item}

-- how many of the first k items a split has not had
abbrev pub not_had : (ℕ → Bool) → ℕ → ℕ
not_had had zero = 0
not_had had (suc k) = cond (had k) 0 1 + not_had had k

pub not_had-none : (k : ℕ) → not_had none_had k ≡ k
not_had-none zero = refl
not_had-none (suc k) = ap (λ n. 1 + n) (not_had-none k) ∙ omega arith

had_itself : (item : ItemNo) (had : ℕ → Bool) (k : ℕ) → k ≡ item.0 → and_had item had k ≡ true
had_itself item had k same = ap (λ b. b || had k) (eq-eqb k item.0 same)

pub had_other : (item : ItemNo) (had : ℕ → Bool) (k : ℕ) → (k ≡ item.0 → ⊥) → and_had item had k ≡ had k
had_other item had k other = ap (λ b. b || had k) (ne_eqb k item.0 other)

-- past an item, having had it changes nothing
not_had-before : (item : ItemNo) (had : ℕ → Bool) (k : ℕ) → k ≤ item.0 → not_had (and_had item had) k ≡ not_had had k
not_had-before item had zero h = refl
not_had-before item had (suc k) h =
    ap (λ b. cond b 0 1 + not_had (and_had item had) k) (had_other item had k (λ e. omega (arith, e, h)))
    ∙ ap (λ n. cond (had k) 0 1 + n) (not_had-before item had k (omega (arith, h)))

-- one item had takes one off the count
pub not_had-one : (item : ItemNo) (had : ℕ → Bool) (k : ℕ) → item.0 < k → had item.0 ≡ false
    → not_had had k ≡ suc (not_had (and_had item had) k)
not_had-one item had zero within new = absurd (omega (arith, within))
not_had-one item had (suc k) within new =
    elim (cases_eq k item.0) [
      | inl same ↦ (ap (λ b. cond b 0 1 + not_had had k) (ap had same ∙ new)
          ∙ ap (λ n. 1 + n) (sym (not_had-before item had k (omega (arith, same))))
          ∙ (let n = not_had (and_had item had) k in let e : 1 + n ≡ suc (0 + n) = omega arith in e)
          ∙ ap (λ b. suc (cond b 0 1 + not_had (and_had item had) k)) (sym (had_itself item had k same)))
      | inr other ↦ (ap (λ n. cond (had k) 0 1 + n) (not_had-one item had k (omega (arith, other, within)) new)
          ∙ (let n = not_had (and_had item had) k in let c = cond (had k) 0 1 in let e : c + suc n ≡ suc (c + n) = omega arith in e)
          ∙ ap (λ b. suc (cond b 0 1 + not_had (and_had item had) k)) (sym (had_other item had k other)))
    ]

-- where an item is due, the seat is that of an item of the catalogue that the split has not had
pub record IsDue (items : ℕ) (had : ℕ → Bool) (i : ItemNo) : Type 0 where
  pub within : i.0 < items
  pub new : had i.0 ≡ false

is_due : (items : ℕ) (had : ℕ → Bool) (i j : ItemNo) (b : Bool) → (nat_lt i.0 items && not (had i.0)) ≡ b → cond b (Some i) None ≡ Some j → IsDue items had j
is_due items had i j false same e = absurd (let n : None ≡ Some j = e in cc)
is_due items had i j true same e =
    let parts = and_parts (nat_lt i.0 items) (not (had i.0)) same in
    let one : i ≡ j = (let s : Some i ≡ Some j = e in cc) in
    subst (λ k. IsDue items had k) one (record { within = ltb-true i.0 items parts.0; new = not-true (had i.0) parts.1 })

pub due : (items : ℕ) (had : ℕ → Bool) (seat : Seat) (i : ItemNo) → due_item items had seat ≡ Some i → IsDue items had i
due items had (Item j) i e = is_due items had j i (nat_lt j.0 items && not (had j.0)) refl e
due items had (Length n) i e = absurd (let none : None ≡ Some i = e in cc)
