-- What is known after so many lines of a tree.
use Rattle.std.proofs.Common.{◌≡◌, ◌≢◌, refl, sym, ◌∙◌, ap, subst, ℕ, suc, ◌+◌, inl, inr, List, [], ◌∷◌, ◌++◌, length, All, Bool, true, false, if◌then◌else◌, Option, Some, None, arith}
use Rattle.std.proofs.lemmas.List.{append_assoc, append-nil, length-append}
use Rattle.std.proofs.lemmas.List.Elements.{All-append, All-cons, All-nil}
use Rattle.lam_job.specs.Partial.{Partial}
use Rattle.lam_tree.specs.declared.node.Node.{Node}
use Rattle.lam_tree.specs.declared.node.Word.{Word}
use Rattle.lam_tree.specs.declared.report.Near.{Near}
use Rattle.lam_tree.specs.declared.report.Answer.{Answer}
use Rattle.lam_tree.specs.Reading.{Visit, Stray, Cut, Whole, Reading, ends, visit, read}
use Rattle.lam_tree.specs.Closings.{IsSound, incumbent_with, incumbent_after}
use Rattle.lam_tree.specs.Checks.{cause_of, first_undecided, undecided, LineChecks, TreeChecks}
use Rattle.lam_tree.proofs.Writing.{behind}
use Rattle.lam_check.specs.declared.fault.CheckCause.{CheckCause}
use Rattle.lam_check.specs.declared.state.State.{State}
use Rattle.lam_check.specs.declared.state.Summary.{Summary}
use Rattle.lam_check.specs.Faults.{cause_is}
use Rattle.lam_check.specs.inside.Basis.{Basis}
use Rattle.lam_check.specs.inside.Machine.{left, IsSettled}
use Rattle.lam_check.specs.inside.Steps.{IsTrueLeaf, Remembers, Adds, PassesLine, StopsLine, Sums}

abbrev visit_of : Partial → Word → Visit
visit_of p w = record { partial = p; word = w }

module _ (m : Basis) (given : Answer) (best : Option ℕ) where
  abbrev LeafIsTrue : Visit → Type 0
  LeafIsTrue v = IsTrueLeaf m best v.partial v.word

  -- ---- one visit more

  incumbent-more : (c : Option ℕ) (done : List Visit) (v : Visit)
      → incumbent_after m.stock m.job c (done ++ v ∷ []) ≡ incumbent_with m.stock m.job (incumbent_after m.stock m.job c done) v.partial v.word
  incumbent-more c [] v = refl
  incumbent-more c (u ∷ done) v = incumbent-more (incumbent_with m.stock m.job c u.partial u.word) done v

  lines-more : (line : ℕ) (c : Option ℕ) (done : List Visit) (v : Visit) → LineChecks m.stock m.job m.tests best line c done None
      → IsSound m.stock m.job m.tests best (incumbent_after m.stock m.job c done) v.partial v.word
      → LineChecks m.stock m.job m.tests best line c (done ++ v ∷ []) None
  unfolding LineChecks
  lines-more line c [] v checks sound = (sound, tt)
  lines-more line c (u ∷ done) v checks sound =
      (checks.0, lines-more (suc line) (incumbent_with m.stock m.job c u.partial u.word) done v checks.1 sound)

  lines-stop : (line : ℕ) (c : Option ℕ) (done : List Visit) (v : Visit) (more : List Visit) (at : ℕ) → at ≡ line + length done
      → LineChecks m.stock m.job m.tests best line c done None
      → ¬ IsSound m.stock m.job m.tests best (incumbent_after m.stock m.job c done) v.partial v.word
      → LineChecks m.stock m.job m.tests best line c (done ++ (v ∷ more)) (Some (record { line = at; cause = cause_of m.stock m.job m.tests v.word }))
  unfolding LineChecks
  lines-stop line c [] v more at is checks unsound =
      inl (unsound, ap (λ n. record { line = n; cause = cause_of m.stock m.job m.tests v.word }) (let e : at ≡ line = omega (arith, is) in e))
  lines-stop line c (u ∷ done) v more at is checks unsound =
      inr (checks.0, lines-stop (suc line) (incumbent_with m.stock m.job c u.partial u.word) done v more at (omega (arith, is)) checks.1 unsound)

  -- the first of two
  abbrev first_or : Option Near → Option Near → Option Near
  first_or first other = elim first [ Some near ↦ Some near | None ↦ other ]

  first_or-none : (o : Option Near) → first_or o None ≡ o
  first_or-none (Some near) = refl
  first_or-none None = refl

  first_or-more : (first : Option Near) (all so_far own : Option Near) → all ≡ first_or so_far own → first_or first all ≡ first_or (first_or first so_far) own
  first_or-more (Some near) all so_far own e = refl
  first_or-more None all so_far own e = e

  first-more : (done : List Visit) (v : Visit)
      → first_undecided m.stock m.job best (done ++ v ∷ [])
      ≡ first_or (first_undecided m.stock m.job best done) (undecided m.stock m.job best v.partial v.word)
  first-more [] v = first_or-none (undecided m.stock m.job best v.partial v.word)
  first-more (u ∷ done) v =
      first_or-more (undecided m.stock m.job best u.partial u.word) (first_undecided m.stock m.job best (done ++ v ∷ []))
      (first_undecided m.stock m.job best done) (undecided m.stock m.job best v.partial v.word) (first-more done v)

  named-more : (before after : Option Bool) (first own : Option Near) → Remembers given before first → Adds given before after own
      → Remembers given after (first_or first own)
  named-more None after first own is adds = subst (λ o. Remembers given after (first_or o own)) (sym is) adds
  named-more (Some named) after first own is adds =
      subst (λ o. Remembers given o (first_or first own)) (sym adds) (is.0, ap (λ o. first_or o own) is.1, is.2)

  -- ---- the lines that were passed

  pub record HasRead (line : ℕ) (nodes rest : List Node) (state : State) : Type 0 where
    pub done : List Visit
    pub reads : read m.stock m.job nodes ≡ behind done (left m state.cursor rest)
    pub sound : LineChecks m.stock m.job m.tests best line None done None
    pub incumbent : state.incumbent ≡ incumbent_after m.stock m.job None done
    pub named : Remembers given state.named (first_undecided m.stock m.job best done)
    pub settled : IsSettled m state.cursor
    pub leaves : All LeafIsTrue done
    pub long : length done + length rest ≡ length nodes

  pub read-start : (line : ℕ) (nodes : List Node) (state : State) → ((lines : List Node) → left m state.cursor lines ≡ read m.stock m.job lines)
      → state.incumbent ≡ None → state.named ≡ None → IsSettled m state.cursor → HasRead line nodes nodes state
  unfolding LineChecks
  read-start line nodes state start incumbent named settled = record {
    done = [];
    reads = sym (start nodes);
    sound = tt;
    incumbent = incumbent;
    named = subst (λ o. Remembers given o None) (sym named) refl;
    settled = settled;
    leaves = All-nil LeafIsTrue;
    long = omega arith;
  }

  pub read-next : (line : ℕ) (nodes rest : List Node) (before after : State) (node : Node)
      → HasRead line nodes (node ∷ rest) before → PassesLine m given best before after node → HasRead line nodes rest after
  read-next line nodes rest before after node is passes =
      let p = passes.0 in
      let by = passes.1 in
      let v : Visit = visit_of p node.word in
      let done = is.done in
      let long = is.long in
      let one = length-append done (v ∷ []) in
      record {
        done = done ++ v ∷ [];
        reads = is.reads ∙ ap (behind done) (by.reads rest) ∙ ap (λ visits. record { visits = visits; ending = (left m after.cursor rest).ending }) (sym (append_assoc done (v ∷ []) (left m after.cursor rest).visits));
        sound = lines-more line None done v is.sound (subst (λ c. IsSound m.stock m.job m.tests best c p node.word) is.incumbent by.sound);
        incumbent = by.incumbent ∙ ap (λ c. incumbent_with m.stock m.job c p node.word) is.incumbent ∙ sym (incumbent-more None done v);
        named = subst (Remembers given after.named) (sym (first-more done v))
            (named-more before.named after.named (first_undecided m.stock m.job best done) (undecided m.stock m.job best p node.word) is.named by.named);
        settled = by.settled;
        leaves = All-append LeafIsTrue done (v ∷ []) is.leaves (All-cons LeafIsTrue v [] by.so (All-nil LeafIsTrue));
        long = omega (arith, long, one);
      }

  -- the lines stop the check
  pub read-stop : (line at : ℕ) (nodes rest : List Node) (before : State) (node : Node) (cause : CheckCause)
      → HasRead line nodes (node ∷ rest) before → at + suc (length rest) ≡ line + length nodes → StopsLine m best before cause node
      → TreeChecks m.stock m.job m.tests best line (read m.stock m.job nodes) (Some (record { line = at; cause = cause_is cause }))
  read-stop line at nodes rest before node cause is here (inl strays) =
      let done = is.done in
      let long = is.long in
      let whole : read m.stock m.job nodes ≡ record { visits = done; ending = Stray }
      = is.reads ∙ ap (behind done) (strays.reads rest) ∙ ap (λ visits. record { visits = visits; ending = Stray }) (append-nil done) in
      let e : at ≡ line + length done = omega (arith, here, long) in
      subst (λ r. TreeChecks m.stock m.job m.tests best line r (Some (record { line = at; cause = cause_is cause }))) (sym whole)
      (inr (is.sound, ((λ due. due refl), ap (λ n. record { line = n; cause = cause_is cause }) e ∙ ap (λ c. record { line = line + length done; cause = c }) strays.cause_is)))
  read-stop line at nodes rest before node cause is here (inr stops) =
      let done = is.done in
      let long = is.long in
      let p = stops.0 in
      let by = stops.1 in
      let v : Visit = visit_of p node.word in
      let read_so = by.reads rest in
      let whole : read m.stock m.job nodes ≡ behind done (visit p node.word read_so.0) = is.reads ∙ ap (behind done) read_so.1 in
      let unsound = subst (λ c. ¬ IsSound m.stock m.job m.tests best c p node.word) is.incumbent by.unsound in
      subst (λ r. TreeChecks m.stock m.job m.tests best line r (Some (record { line = at; cause = cause_is cause }))) (sym whole)
      (inl (subst (λ c. LineChecks m.stock m.job m.tests best line None (done ++ (v ∷ read_so.0.visits)) (Some (record { line = at; cause = c }))) (sym by.cause_is)
      (lines-stop line None done v read_so.0.visits at (omega (arith, here, long)) is.sound unsound)))

  -- ---- no line is left

  not_stray : (whole : Bool) → (if whole then Whole else Cut) ≢ Stray
  not_stray true e = cc
  not_stray false e = cc

  module _ (line : ℕ) (nodes : List Node) (state : State) (whole : Bool) (is : HasRead line nodes [] state) (end : left m state.cursor [] ≡ ends (if whole then Whole else Cut)) where
    all_read : read m.stock m.job nodes ≡ record { visits = is.done; ending = if whole then Whole else Cut }
    all_read = is.reads ∙ ap (behind is.done) end ∙ ap (λ visits. record { visits = visits; ending = if whole then Whole else Cut }) (append-nil is.done)

    pub read-none : TreeChecks m.stock m.job m.tests best line (read m.stock m.job nodes) None
    read-none = subst (λ r. TreeChecks m.stock m.job m.tests best line r None) (sym all_read) (is.sound, not_stray whole)

    pub read-sums : (s : Summary) → s.incumbent ≡ state.incumbent → s.named ≡ state.named → s.whole ≡ whole → Sums m given best (read m.stock m.job nodes) s
    read-sums s incumbent named same =
        subst (λ r. Sums m given best r s) (sym all_read) (record {
          incumbent = incumbent ∙ is.incumbent;
          named = subst (λ o. Remembers given o (first_undecided m.stock m.job best is.done)) (sym named) is.named;
          ending = ap (λ (b : Bool). if b then Whole else Cut) (sym same);
        })

    pub read-leaves : All LeafIsTrue (read m.stock m.job nodes).visits
    read-leaves = subst (λ (r : Reading). All LeafIsTrue r.visits) (sym all_read) is.leaves
