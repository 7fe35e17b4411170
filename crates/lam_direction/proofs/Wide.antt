-- Comparing numbers of 128 bits by their bits.
use Rattle.std.proofs.Common.{rules, ◌≡◌, ◌↔◌, ℕ, IsTrue, Bool, true, false, nat_eq, ℤ, ◌*ℤ◌, to_z, of_z, w64, sym, ap, ◌∙◌}
use mir.Syntax.{w128}
use mir.Val.{SFits}
use Rattle.std.proofs.lemmas.Int.{to_z-of_z}

tested : (a b : ℕ) → IsTrue (nat_eq a b) ↔ (a ≡ b)
tested a b = search rules

-- the bits of two numbers are the same exactly where the numbers are
pub same_bits : (x y u v : ℤ) → SFits w128 x → SFits w128 y → x ≡ u → y ≡ v → IsTrue (nat_eq (of_z w128 x) (of_z w128 y)) ↔ (u ≡ v)
same_bits x y u v fx fy ex ey =
    let t = tested (of_z w128 x) (of_z w128 y) in (
      (λ h. sym ex ∙ sym (to_z-of_z w128 x fx) ∙ ap (to_z w128) (t.0 h) ∙ to_z-of_z w128 y fy ∙ ey),
      (λ h. t.1 (ap (of_z w128) (ex ∙ h ∙ sym ey))),
    )

-- a product of two numbers of 64 bits
pub product_of : (a b x : ℤ) → SFits w64 a → SFits w64 b → x ≡ to_z w64 (of_z w64 a) *ℤ to_z w64 (of_z w64 b) → x ≡ a *ℤ b
product_of a b x fa fb h = rw (to_z-of_z w64 a fa, to_z-of_z w64 b fb) at h

-- the second of two tests tells whether both facts hold, where the first one is true
pub both : {P Q : Type 0} (b d : Bool) → (IsTrue b ↔ P) → (IsTrue d ↔ Q) → b ≡ true → IsTrue d ↔ (P × Q)
both true d p q e = ((λ h. (p.0 (search rules), q.0 h)), (λ h. q.1 h.1))
both false d p q e = cc
