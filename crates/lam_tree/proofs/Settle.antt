-- A whole tree settles: no schedule that may be built costs less than the best one, nor than the least admissible leaf.
use Rattle.std.proofs.Common.{◌≡◌, ◌≢◌, refl, sym, ◌∙◌, ap, subst, ℕ, ◌≤◌, ◌⊎◌, inl, inr, List, [], ◌∷◌, slice_get, All, Option, Some, None, IsSomeAnd, Bool, true, false, if◌then◌else◌, arith}
use Rattle.std.proofs.lemmas.Bool.{ltb-false}
use Rattle.std.proofs.lemmas.List.Elements.{All-head, All-tail, All-get_or}
use Rattle.std.proofs.lemmas.Option.{same_Some, get_or_from_slice_get, slice_get_within}
use Rattle.lam_fraction.specs.Fraction.{whole}
use Rattle.lam_stock.specs.declared.item.Item.{Item}
use Rattle.lam_stock.specs.declared.item.ItemNo.{ItemNo}
use Rattle.lam_job.specs.JobData.{JobData, CaseData, PanelData}
use Rattle.lam_job.specs.Schedule.{wall_of, cost_of}
use Rattle.lam_job.specs.Strength.{PlyPlace, PlyRatio, RatioAt, RatioThere, FailsAt}
use Rattle.lam_job.specs.Plate.{PanelAtLeast, Buckles}
use Rattle.lam_job.specs.LoadRange.{WallInRange, OutOfRange}
use Rattle.lam_job.specs.LoadOf.{load_of}
use Rattle.lam_job.specs.Rules.{Breaks}
use Rattle.lam_job.specs.Design.{Admissible}
use Rattle.lam_job.specs.Partial.{Partial, Completes, ForEveryCompletion, completion, cost_floor}
use Rattle.lam_job.proofs.Completions.{only_completion}
use Rattle.lam_tsai.specs.declared.place.Place.{Place}
use Rattle.lam_tree.specs.declared.node.Word.{Word}
use Rattle.lam_tree.specs.declared.node.Word.TheVariants as word
use Rattle.lam_tree.specs.declared.report.Near.{Near}
use Rattle.lam_tree.specs.Words.{place_of, IsTrueOf, OfFull, NoneIsCheaper, AllFailAt}
use Rattle.lam_tree.specs.Reading.{Visit}
use Rattle.lam_tree.specs.Closings.{lesser, incumbent_with, incumbent_after}
use Rattle.lam_tree.specs.Checks.{is_cheaper, undecided, first_undecided}
use Rattle.lam_tree.proofs.Cover.{Covers}
use Rattle.lam_tree.proofs.CostFloor.{floor_bounds}

-- there is a cost, and it is at most another
abbrev pub NotAbove : Option ℕ → ℕ → Type 0
NotAbove c cost = IsSomeAnd c (λ least. least ≤ cost)

-- what holds of all holds of each
all_at : {X : Type 0} (P : X → Type 0) (xs : List X) (k : ℕ) (x : X) → All P xs → slice_get xs k ≡ Some x → P x
all_at P xs k x all is = subst P (get_or_from_slice_get xs k x x is) (All-get_or P xs k x (slice_get_within xs k x is) all)

-- ---- what may be built fails nowhere

module _ (stock : List Item) (job : JobData) (s : List ItemNo) (may : Admissible stock job s) where
  of_case : (So : CaseData → Type 0) (k : ℕ) → IsSomeAnd (slice_get job.cases k) So → (c : CaseData) × (slice_get job.cases k ≡ Some c) × So c
  of_case So k some = by (slice_get job.cases k) refl some where
    by : (o : Option CaseData) → slice_get job.cases k ≡ o → IsSomeAnd o So → (c : CaseData) × (slice_get job.cases k ≡ Some c) × So c
    by None is so = absurd so
    by (Some c) is so = (c, is, so)

  of_panel : (So : PanelData → Type 0) (k : ℕ) → IsSomeAnd (slice_get job.panels k) So → (p : PanelData) × (slice_get job.panels k ≡ Some p) × So p
  of_panel So k some = by (slice_get job.panels k) refl some where
    by : (o : Option PanelData) → slice_get job.panels k ≡ o → IsSomeAnd o So → (p : PanelData) × (slice_get job.panels k ≡ Some p) × So p
    by None is so = absurd so
    by (Some p) is so = (p, is, so)

  fails_nowhere : (at : PlyPlace) → ¬ FailsAt stock job s at
  fails_nowhere at fails =
      let found = of_case (λ case. ¬ RatioAt stock job s at (whole case.factor)) at.case fails in
      found.2 (λ c is p there side.
      subst (λ (q : CaseData). RatioThere (wall_of stock job s) (load_of c.kind) p at.face at.side (whole q.factor))
      (same_Some c found.0 (sym is ∙ found.1))
      (all_at (λ case. (ply : ℕ) → PlyRatio (wall_of stock job s) (load_of case.kind) ply (whole case.factor)) job.cases at.case c may.factors.cases is at.ply p there at.face at.side side))

  in_range : (k : ℕ) (c : CaseData) → slice_get job.cases k ≡ Some c → WallInRange stock (wall_of stock job s) (load_of c.kind)
  in_range k c is = all_at (λ case. WallInRange stock (wall_of stock job s) (load_of case.kind)) job.cases k c may.range is

  never_out : (k : ℕ) → ¬ OutOfRange stock job s k
  never_out k out =
      let found = of_case (λ c. ¬ WallInRange stock (wall_of stock job s) (load_of c.kind)) k out in
      found.2 (in_range k found.0 found.1)

  never_buckles : (k : ℕ) → ¬ Buckles stock job s k
  never_buckles k buckles =
      let found = of_panel (λ p. ¬ PanelAtLeast (wall_of stock job s) p (whole p.factor)) k buckles in
      found.2 (all_at (λ panel. PanelAtLeast (wall_of stock job s) panel (whole panel.factor)) job.panels k found.0 may.factors.panels found.1)

  breaks_no_rule : (number : ℕ) → ¬ Breaks number stock job s
  breaks_no_rule number breaks = breaks.2 (may.rules breaks.0)

  fails_in_no_box : (p : Partial) (at : Place) → Completes stock job p s → ¬ AllFailAt stock job p at
  fails_in_no_box p at completes all =
      let found = of_case (λ c. ForEveryCompletion stock job p (λ listed. WallInRange stock (wall_of stock job listed) (load_of c.kind) → FailsAt stock job listed (place_of at))) at.case all in
      fails_nowhere (place_of at) (found.2 s completes (in_range at.case found.0 found.1))

-- ---- the incumbent only falls

lesser_than : (c : Option ℕ) (n cost : ℕ) → (NotAbove c cost ⊎ (n ≤ cost)) → lesser c n ≤ cost
lesser_than None n cost (inl h) = absurd h
lesser_than None n cost (inr h) = h
lesser_than (Some least) n cost (inl h) = omega (arith, h)
lesser_than (Some least) n cost (inr h) = omega (arith, h)

module _ (stock : List Item) (job : JobData) where
  falls-with : (c : Option ℕ) (p : Partial) (w : Word) (cost : ℕ) → NotAbove c cost → NotAbove (incumbent_with stock job c p w) cost
  falls-with c p word.Admissible cost h = lesser_than c (cost_of stock job (completion job p)) cost (inl h)
  falls-with c p word.Split cost h = h
  falls-with c p word.Cost cost h = h
  falls-with c p (word.Rule r) cost h = h
  falls-with c p (word.NetShort k w) cost h = h
  falls-with c p (word.NetCost k w) cost h = h
  falls-with c p (word.Box at) cost h = h
  falls-with c p (word.Range k) cost h = h
  falls-with c p (word.Fails at) cost h = h
  falls-with c p (word.Buckles k) cost h = h
  falls-with c p (word.Straddles spot) cost h = h

  pub incumbent-falls : (c : Option ℕ) (visits : List Visit) (cost : ℕ) → NotAbove c cost → NotAbove (incumbent_after stock job c visits) cost
  incumbent-falls c [] cost h = h
  incumbent-falls c (v ∷ rest) cost h =
      incumbent-falls (incumbent_with stock job c v.partial v.word) rest cost (falls-with c v.partial v.word cost h)

-- ---- where no leaf is undecided

undecided_none : (b : Bool) (near : Near) → (if b then Some near else None) ≡ None → b ≡ false
undecided_none false near e = refl
undecided_none true near e = absurd (let n : Some near ≡ None = e in cc)

not_cheaper : (best : Option ℕ) (cost : ℕ) → is_cheaper cost best ≡ false → NotAbove best cost
not_cheaper None cost e = absurd (let t : true ≡ false = e in cc)
not_cheaper (Some least) cost e = ltb-false cost least e

-- the first of two options
first_none : (a b : Option Near) → ◌≡◌ {A = Option Near} (elim a [ Some near ↦ Some near | None ↦ b ]) None → (a ≡ None) × (b ≡ None)
first_none None b e = (refl, e)
first_none (Some near) b e = absurd (let n : Some near ≡ None = e in cc)

module _ (stock : List Item) (job : JobData) (best : Option ℕ) (s : List ItemNo) (may : Admissible stock job s) where
  -- the completion of a full partial is all that completes it
  of_full : (So : List ItemNo → Type 0) (p : Partial) → Completes stock job p s → OfFull job p So → So s
  of_full So p completes of = subst So (sym (only_completion stock job p s of.0 completes)) of.1

  -- a true leaf that closes a schedule that may be built
  line-settles : (c : Option ℕ) (p : Partial) (w : Word) → IsTrueOf stock job best p w → Completes stock job p s → w ≢ word.Split
      → undecided stock job best p w ≡ None
      → NotAbove best (cost_of stock job s) ⊎ NotAbove (incumbent_with stock job c p w) (cost_of stock job s)
  line-settles c p word.Split holds completes leaf decided = absurd (leaf refl)
  line-settles c p word.Cost holds completes leaf decided = inl (below best holds) where
    below : (o : Option ℕ) → IsSomeAnd o (λ cost. cost ≤ cost_floor stock job p) → NotAbove o (cost_of stock job s)
    below None is = absurd is
    below (Some cost) is = let bound = floor_bounds stock job p s completes in omega (arith, is, bound)
  line-settles c p (word.Rule r) holds completes leaf decided = absurd (breaks_no_rule stock job s may r.0 (holds s completes))
  line-settles c p (word.NetShort k w) holds completes leaf decided = absurd (holds s completes may)
  line-settles c p (word.NetCost k w) (inl none) completes leaf decided = absurd (none s completes may)
  line-settles c p (word.NetCost k w) (inr cheaper) completes leaf decided = inl (below best cheaper) where
    below : (o : Option ℕ) → IsSomeAnd o (NoneIsCheaper stock job p) → NotAbove o (cost_of stock job s)
    below None is = absurd is
    below (Some cost) is = is s completes may
  line-settles c p (word.Box at) holds completes leaf decided = absurd (fails_in_no_box stock job s may p at completes holds)
  line-settles c p (word.Range k) holds completes leaf decided =
      absurd (never_out stock job s may k (of_full (λ listed. OutOfRange stock job listed k) p completes holds))
  line-settles c p (word.Fails at) holds completes leaf decided =
      absurd (fails_nowhere stock job s may (place_of at) (of_full (λ listed. FailsAt stock job listed (place_of at)) p completes holds))
  line-settles c p (word.Buckles k) holds completes leaf decided =
      absurd (never_buckles stock job s may k (of_full (λ listed. Buckles stock job listed k) p completes holds))
  line-settles c p (word.Straddles spot) holds completes leaf decided =
      let own = cost_of stock job (completion job p) in
      let near : Near = record { plies = completion job p; cost = own; at = spot } in
      inl (subst (λ listed. NotAbove best (cost_of stock job listed)) (sym (only_completion stock job p s holds.0 completes))
      (not_cheaper best own (undecided_none (is_cheaper own best) near decided)))
  line-settles c p word.Admissible holds completes leaf decided =
      inr (lesser_than c (cost_of stock job (completion job p)) (cost_of stock job s)
      (inr (let same = only_completion stock job p s holds.0 completes in let e = ap (cost_of stock job) same in omega (arith, e))))

  -- where all leaves are true, one closes a schedule that may be built, and none is undecided below the best cost: that
  -- cost is at most the schedule's, or the least cost of an admissible leaf is
  pub settles : (c : Option ℕ) (visits : List Visit) → All (λ v. IsTrueOf stock job best v.partial v.word) visits → Covers stock job s visits
      → first_undecided stock job best visits ≡ None
      → NotAbove best (cost_of stock job s) ⊎ NotAbove (incumbent_after stock job c visits) (cost_of stock job s)
  settles c [] holds covers decided = absurd covers
  settles c (v ∷ rest) holds covers decided =
      let P : Visit → Type 0 = λ u. IsTrueOf stock job best u.partial u.word in
      let parts = first_none (undecided stock job best v.partial v.word) (first_undecided stock job best rest) decided in
      elim covers [
        | inl closes ↦ elim (line-settles c v.partial v.word (All-head P v rest holds) closes.completes closes.leaf parts.0) [
          | inl low ↦ inl low
          | inr low ↦ inr (incumbent-falls stock job (incumbent_with stock job c v.partial v.word) rest (cost_of stock job s) low)
        ]
        | inr later ↦ settles (incumbent_with stock job c v.partial v.word) rest (All-tail P v rest holds) later parts.1
      ]
