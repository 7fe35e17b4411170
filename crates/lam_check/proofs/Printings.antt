-- Printed ratios, line by line, and what they say.
use Rattle.std.proofs.Common.{◌≡◌, ◌≢◌, refl, sym, ◌∙◌, ap, subst, ℕ, zero, suc, ◌+◌, ◌*◌, ◌/◌, ◌%◌, ◌<◌, inl, inr, List, [], ◌∷◌, length, drop, get_or, slice_get, Option, Some, None, MatchOption, arith}
use Rattle.std.proofs.Math.Nat.{mod-add-div'}
use Rattle.std.proofs.Math.Seq.{drop-cons}
use Rattle.std.proofs.lemmas.Option.{same_Some, slice_get-get_or, slice_get_within}
use Rattle.lam_stock.specs.declared.item.Item.{Item}
use Rattle.lam_stock.specs.declared.item.ItemNo.{ItemNo}
use Rattle.lam_job.specs.JobData.{JobData}
use Rattle.lam_job.specs.Rules.{Fit}
use Rattle.lam_job.specs.Schedule.{wall_of}
use Rattle.lam_sharp.specs.SharpRatios.{HasSharpRatio, HasSharpPanel}
use Rattle.lam_judge.specs.Printed.{Printed, ratio_of, panel_of, panel_in, ArePrinted, HavePanelRatios}
use Rattle.lam_judge.specs.inside.Ratios.{printed}
use Rattle.lam_tree.specs.Findings.{Fault, WrongRatio}
use Rattle.lam_tree.specs.Checks.{RatioChecks, PanelChecks}
use Rattle.lam_tree.specs.Promise.{HasRatios, HasPanels}
use Rattle.lam_answers.specs.inside.Computed.{computed}

module _ (stock : List Item) (job : JobData) (listed : List ItemNo) (room : Printed) (is : room ≡ printed stock job listed) where
  -- ---- ratios, of a wall of so many plies

  module _ (plies : ℕ) where
    abbrev pub Ratios : (line i : ℕ) → List ℕ → Option Fault → Type 0
    Ratios line i ratios found = RatioChecks stock job (computed stock job) listed plies line i ratios found

    pass : (line i r : ℕ) (rest : List ℕ) → r ≡ ratio_of room (i / plies) (i % plies)
        → (found : Option Fault) → Ratios (suc line) (suc i) rest found → Ratios line i (r ∷ rest) found
    unfolding RatioChecks
    pass line i r rest same None later = (same ∙ ap (λ p. ratio_of p (i / plies) (i % plies)) is, later)
    pass line i r rest same (Some fault) later = inr (same ∙ ap (λ p. ratio_of p (i / plies) (i % plies)) is, later)

    fail : (line i r : ℕ) (rest : List ℕ) → r ≢ ratio_of room (i / plies) (i % plies)
        → Ratios line i (r ∷ rest) (Some (record { line = line; cause = WrongRatio }))
    unfolding RatioChecks
    fail line i r rest other = inl ((λ e. other (e ∙ ap (λ p. ratio_of p (i / plies) (i % plies)) (sym is))), refl)

    -- the loop over the ratios: what is found of those that are left is found of all
    pub ratio-passes : (ratios : List ℕ) (first i : ℕ) → i < length ratios → get_or ratios i 0 ≡ ratio_of room (i / plies) (i % plies)
        → (found : Option Fault) → Ratios (first + (i + 1)) (i + 1) (drop (i + 1) ratios) found → Ratios (first + i) i (drop i ratios) found
    ratio-passes ratios first i within same found later =
        subst (λ l. Ratios (first + i) i l found) (sym (drop-cons ratios i 0 within))
        (pass (first + i) i (get_or ratios i 0) (drop (suc i) ratios) same found
        (subst (λ k. Ratios (suc (first + i)) k (drop k ratios) found) (let e : i + 1 ≡ suc i = omega arith in e)
        (subst (λ n. Ratios n (i + 1) (drop (i + 1) ratios) found) (let e : first + (i + 1) ≡ suc (first + i) = omega arith in e) later)))

    pub ratio-fails : (ratios : List ℕ) (first i : ℕ) → i < length ratios → get_or ratios i 0 ≢ ratio_of room (i / plies) (i % plies)
        → Ratios (first + i) i (drop i ratios) (Some (record { line = first + i; cause = WrongRatio }))
    ratio-fails ratios first i within other =
        subst (λ l. Ratios (first + i) i l (Some (record { line = first + i; cause = WrongRatio }))) (sym (drop-cons ratios i 0 within))
        (fail (first + i) i (get_or ratios i 0) (drop (suc i) ratios) other)

    pub no-ratios : (line i : ℕ) → Ratios line i [] None
    unfolding RatioChecks
    no-ratios line i = tt

    ratio-is : (line i : ℕ) (ratios : List ℕ) → Ratios line i ratios None → (k r : ℕ) → slice_get ratios k ≡ Some r
        → r ≡ ratio_of room ((i + k) / plies) ((i + k) % plies)
    unfolding RatioChecks
    ratio-is line i [] checks k r at = absurd (let n : None ≡ Some r = at in cc)
    ratio-is line i (x ∷ rest) checks zero r at =
        sym (same_Some x r at) ∙ checks.0 ∙ ap (λ p. ratio_of p (i / plies) (i % plies)) (sym is)
        ∙ ap (λ n. ratio_of room (n / plies) (n % plies)) (let e : i ≡ i + 0 = omega arith in e)
    ratio-is line i (x ∷ rest) checks (suc k) r at =
        ratio-is (suc line) (suc i) rest checks.1 k r at
        ∙ ap (λ n. ratio_of room (n / plies) (n % plies)) (let e : suc i + k ≡ i + suc k = omega arith in e)

    pub have-ratios : (ratios : List ℕ) → ArePrinted stock job listed room → plies ≡ length (wall_of stock job listed) → length ratios ≡ length room.ratios
        → Ratios 6 0 ratios None → HasRatios stock job listed ratios
    have-ratios ratios are long many checks i r at =
        let of_room : plies ≡ room.plies = long ∙ sym are.plies in
        let within = slice_get_within ratios i r at in
        let own : r ≡ get_or room.ratios (i / plies * room.plies + i % plies) 0
        = ratio-is 6 0 ratios checks i r at ∙ ap (λ n. ratio_of room (n / plies) (n % plies)) (let e : 0 + i ≡ i = omega arith in e) in
        let place : i / plies * room.plies + i % plies ≡ i
        = ap (λ n. i / plies * n + i % plies) (sym of_room) ∙ (let d = mod-add-div' i plies in omega (arith, d)) in
        let same : r ≡ get_or room.ratios i 0 = own ∙ ap (λ k. get_or room.ratios k 0) place in
        let there : slice_get room.ratios i ≡ Some r
        = slice_get-get_or room.ratios i 0 (omega (arith, within, many)) ∙ ap (λ n. Some n) (sym same) in
        subst (λ n. HasSharpRatio stock job listed (i / n) (i % n) r) are.plies (are.ratios i r there)

  -- ---- panels

  abbrev pub Panels : (line i : ℕ) → List ℕ → Option Fault → Type 0
  Panels line i panels found = PanelChecks stock job (computed stock job) listed line i panels found

  pass-panel : (line i r : ℕ) (rest : List ℕ) → Some r ≡ panel_of room i → (found : Option Fault) → Panels (suc line) (suc i) rest found → Panels line i (r ∷ rest) found
  unfolding PanelChecks
  pass-panel line i r rest same None later = (same ∙ ap (λ p. panel_of p i) is, later)
  pass-panel line i r rest same (Some fault) later = inr (same ∙ ap (λ p. panel_of p i) is, later)

  fail-panel : (line i r : ℕ) (rest : List ℕ) → (Some r ≡ panel_of room i → ⊥) → Panels line i (r ∷ rest) (Some (record { line = line; cause = WrongRatio }))
  unfolding PanelChecks
  fail-panel line i r rest other = inl ((λ e. other (e ∙ ap (λ p. panel_of p i) (sym is))), refl)

  pub panel-passes : (panels : List ℕ) (first i : ℕ) → i < length panels → Some (get_or panels i 0) ≡ panel_of room i
      → (found : Option Fault) → Panels (first + (i + 1)) (i + 1) (drop (i + 1) panels) found → Panels (first + i) i (drop i panels) found
  panel-passes panels first i within same found later =
      subst (λ l. Panels (first + i) i l found) (sym (drop-cons panels i 0 within))
      (pass-panel (first + i) i (get_or panels i 0) (drop (suc i) panels) same found
      (subst (λ k. Panels (suc (first + i)) k (drop k panels) found) (let e : i + 1 ≡ suc i = omega arith in e)
      (subst (λ n. Panels n (i + 1) (drop (i + 1) panels) found) (let e : first + (i + 1) ≡ suc (first + i) = omega arith in e) later)))

  pub panel-fails : (panels : List ℕ) (first i : ℕ) → i < length panels → (Some (get_or panels i 0) ≡ panel_of room i → ⊥)
      → Panels (first + i) i (drop i panels) (Some (record { line = first + i; cause = WrongRatio }))
  panel-fails panels first i within other =
      subst (λ l. Panels (first + i) i l (Some (record { line = first + i; cause = WrongRatio }))) (sym (drop-cons panels i 0 within))
      (fail-panel (first + i) i (get_or panels i 0) (drop (suc i) panels) other)

  pub no-panels : (line i : ℕ) → Panels line i [] None
  unfolding PanelChecks
  no-panels line i = tt

  panel-is : (line i : ℕ) (panels : List ℕ) → Panels line i panels None → (k r : ℕ) → slice_get panels k ≡ Some r → Some r ≡ panel_of room (i + k)
  unfolding PanelChecks
  panel-is line i [] checks k r at = absurd (let n : None ≡ Some r = at in cc)
  panel-is line i (x ∷ rest) checks zero r at =
      sym at ∙ checks.0 ∙ ap (λ p. panel_of p i) (sym is) ∙ ap (λ n. panel_of room n) (let e : i ≡ i + 0 = omega arith in e)
  panel-is line i (x ∷ rest) checks (suc k) r at =
      panel-is (suc line) (suc i) rest checks.1 k r at ∙ ap (λ n. panel_of room n) (let e : suc i + k ≡ i + suc k = omega arith in e)

  pub have-panels : (line : ℕ) (panels : List ℕ) → ArePrinted stock job listed room → length panels ≡ length job.panels
      → Panels line 0 panels None → HasPanels stock job listed panels
  have-panels line panels are many checks i r at =
      let within = slice_get_within panels i r at in
      by room.panels are.panels (panel-is line 0 panels checks i r at ∙ ap (λ n. panel_of room n) (let e : 0 + i ≡ i = omega arith in e)) where
        by : (o : Option (List ℕ)) → MatchOption o (¬ Fit stock job listed) (λ ratios. Fit stock job listed × HavePanelRatios stock job listed ratios)
            → Some r ≡ panel_in o i → HasSharpPanel stock job listed i r
        by None none same = absurd (let n : Some r ≡ None = same in cc)
        by (Some own) (fit, have) same =
            let number = have.number in
            let inside = slice_get_within panels i r at in
            have.each i r (slice_get-get_or own i 0 (omega (arith, inside, number, many)) ∙ sym same)
