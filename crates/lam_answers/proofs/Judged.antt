-- What the word of a judged completion says is so.
use Rattle.std.proofs.Common.{◌≡◌, refl, sym, ap, subst, ℕ, List, Option}
use Rattle.lam_stock.specs.declared.item.Item.{Item}
use Rattle.lam_job.specs.JobData.{JobData}
use Rattle.lam_job.specs.Rules.{Breaks}
use Rattle.lam_job.specs.Strength.{FailsAt}
use Rattle.lam_job.specs.Near as near
use Rattle.lam_job.specs.Partial.{Partial, IsFull, completion}
use Rattle.lam_job.proofs.Completions.{only_completion}
use Rattle.lam_tsai.specs.declared.place.FaceSide.{FaceSide}
use Rattle.lam_tsai.specs.declared.place.FaceSide.TheVariants.{Inner, Outer}
use Rattle.lam_tsai.specs.declared.place.Place.{Place}
use Rattle.lam_tsai.specs.Levels.{side_of}
use Rattle.lam_judge.specs.declared.judgement.Judgement.{Judgement}
use Rattle.lam_judge.specs.declared.judgement.Judgement.TheVariants as judgement
use Rattle.lam_judge.specs.Judgements as said
use Rattle.lam_tree.specs.declared.node.Word.{Word}
use Rattle.lam_tree.specs.Words as tree
use Rattle.lam_answers.specs.inside.Computed.{word_of}

same_face : (face : FaceSide) → said.face_of face ≡ tree.face_of face
same_face Inner = refl
same_face Outer = refl

same_place : (at : Place) → said.place_of at ≡ tree.place_of at
same_place at = ap (λ f. record { case = at.case; ply = at.ply; face = f; side = side_of at.side }) (same_face at.face)

module _ (stock : List Item) (job : JobData) (best : Option ℕ) (p : Partial) (full : IsFull job p) where
  so : (j : Judgement) → said.IsSaid stock job (completion job p) j → tree.IsTrueOf stock job best p (word_of j)
  so judgement.Admissible is = (full, is)
  so (judgement.Broken rule) is = λ listed completes. subst (Breaks rule.0 stock job) (sym (only_completion stock job p listed full completes)) is.broken
  so (judgement.OutOfRange case) is = (full, is.1.out)
  so (judgement.Fails at) is = (full, subst (FailsAt stock job (completion job p)) (same_place at) is)
  so (judgement.Buckles panel) is = (full, is)
  so (judgement.StraddlesPly at) is = (full, subst (λ place. near.Hangs stock job (completion job p) (near.AtPly place)) (same_place at) is)
  so (judgement.StraddlesPanel panel) is = (full, is)

  pub judged_so : (j : Judgement) (w : Word) → word_of j ≡ w → said.IsSaid stock job (completion job p) j → tree.IsTrueOf stock job best p w
  judged_so j w is_word is = subst (tree.IsTrueOf stock job best p) is_word (so j is)
