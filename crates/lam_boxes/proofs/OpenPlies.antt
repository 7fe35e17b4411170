-- What can be at the open places, one item after the other.
use Rattle.std.proofs.Common.{◌≡◌, refl, sym, ◌∙◌, ap, subst, ℕ, ◌+◌, ◌<◌, ◌≤◌, ℤ, pos, ◌*ℤ◌, ◌≤ℤ◌, List, [], ◌∷◌, ◌++◌, length, length-take, take, get_or, arith}
use Rattle.std.proofs.lemmas.List.{take_all, take_more}
use Rattle.std.proofs.lemmas.List.Elements.{All-cons, All-nil, All-take}
use Rattle.std.proofs.lemmas.List.Sums.{fold-append}
use Rattle.std.proofs.lemmas.Option.{slice_get_read}
use Rattle.lam_fraction.specs.numbers.Numbers.{Numbers, Lawful}
use Rattle.lam_stock.specs.declared.item.Item.{Item}
use Rattle.lam_stock.specs.Scale.{scale_of}
use Rattle.lam_lamina.specs.declared.stiffness.Sym3.{Sym3}
use Rattle.lam_lamina.specs.declared.table.Stiffnesses.{Stiffnesses}
use Rattle.lam_lamina.specs.inside.Table.{IsTableOf, entry_at}
use Rattle.lam_job.proofs.Places.{thickness_not_negative}
use Rattle.lam_wall.specs.inside.Formulas as wall
use Rattle.lam_wall.proofs.LaidWall.{short-stiffness}
use Rattle.lam_boxes.specs.inside.Extensions.{any_plies, either, plies_of, with_item}
use Rattle.lam_boxes.specs.inside.Parts.{FitEach, MatrixReaches, entry_reach, open_reach}
use Rattle.lam_boxes.proofs.Completions.{fits-each}
use Rattle.lam_boxes.proofs.HeldExtension.{Fits, any-reaches}

module _ {A : Type 0} {n : Numbers A} (laws : Lawful n) {many h : ℤ} {stock : List Item} (f : FitEach many h stock) where
  abbrev q0 : ℤ
  q0 = (scale_of stock).q0

  abbrev Fit : Item → Type 0
  Fit i = Fits laws q0 h f.thickness many i

  -- the first items
  pub first-reach : (k : ℕ) {m : Sym3 A} → 1 ≤ k → m ≡ any_plies n q0 h many (take k stock) → MatrixReaches n open_reach m
  first-reach k some e =
      let t = length-take k stock in
      subst (MatrixReaches n open_reach) (sym e) (any-reaches laws q0 h f.thickness many (take k stock) (omega (arith, t, some, f.catalogue.some)) (omega (arith, t, f.catalogue.few)) (All-take Fit k stock (fits-each laws f)))

  -- one more, after some
  more-plies : (items : List Item) (i : Item) → 1 ≤ length items → any_plies n q0 h many (items ++ i ∷ []) ≡ either n (any_plies n q0 h many items) (plies_of n q0 h many i)
  more-plies [] i some = absurd (omega (arith, some))
  more-plies (x ∷ items) i some = fold-append (with_item n q0 h many) (plies_of n q0 h many x) items (i ∷ [])

  module _ (k : ℕ) (i : Item) (inside : k < length stock) (is : i ≡ get_or stock k i) where
    item-fits : Fit i
    item-fits = subst Fit (sym is) (fits-each laws f k i inside)

    pub item-thick : pos 0 ≤ℤ i.lamina.t
    item-thick = thickness_not_negative item-fits.limits

    pub item-within : (many *ℤ i.lamina.t) ≤ℤ h
    item-within = item-fits.within

    -- the entry of a table at its number is its stiffness
    pub item-told : {table : Stiffnesses A} → IsTableOf n stock table → entry_at table k ≡ wall.stiffness n.calc q0 i
    item-told is_table = is_table.entries k i (slice_get_read stock (length stock) k i refl inside is)

    pub item-short : {s : Sym3 A} → s ≡ wall.stiffness n.calc q0 i → MatrixReaches n entry_reach s
    item-short e = subst (MatrixReaches n entry_reach) (sym e)
        (let s = short-stiffness laws q0 h item-fits.limits item-fits.covered in record { xx = s.xx; xy = s.xy; yy = s.yy; xs = s.xs; ys = s.ys; ss = s.ss })

    pub item-reach : {p : Sym3 A} → p ≡ plies_of n q0 h many i → MatrixReaches n open_reach p
    item-reach e = subst (MatrixReaches n open_reach) (sym e) (any-reaches laws q0 h f.thickness many (i ∷ []) (omega arith) (omega arith) (All-cons Fit i [] item-fits (All-nil Fit)))

    pub first-plies : {p : Sym3 A} → k ≡ 0 → p ≡ plies_of n q0 h many i → p ≡ any_plies n q0 h many (take 1 stock)
    first-plies zero_is e =
        e ∙ ap (λ (xs : List Item). any_plies n q0 h many xs) (sym (ap (λ j. take (j + 1) stock) (sym zero_is) ∙ take_more stock k i inside ∙ (λ j. take (zero_is j) stock ++ sym is j ∷ [])))

    pub next-plies : {m p next : Sym3 A} → 1 ≤ k → m ≡ any_plies n q0 h many (take k stock) → p ≡ plies_of n q0 h many i → next ≡ either n m p
        → next ≡ any_plies n q0 h many (take (k + 1) stock)
    next-plies some em ep en =
        let t = length-take k stock in
        en ∙ (λ j. either n (em j) (ep j)) ∙ sym (more-plies (take k stock) i (omega (arith, t, some, inside)))
        ∙ ap (any_plies n q0 h many) (sym (take_more stock k i inside ∙ ap (λ x. take k stock ++ x ∷ []) (sym is)))

  -- all of them
  pub all-plies : {k : ℕ} {m : Sym3 A} → m ≡ any_plies n q0 h many (take k stock) → length stock ≤ k → m ≡ any_plies n q0 h many stock
  all-plies {k} e all = e ∙ ap (any_plies n q0 h many) (take_all k stock (omega (arith, all)))
