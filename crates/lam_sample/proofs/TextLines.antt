-- How the text of a catalogue and the draws go on from item to item.
use Rattle.std.proofs.Common.{◌≡◌, ◌<◌, ◌≤◌, ◌+◌, ◌-◌, ◌*◌, ℕ, zero, suc, List, [], ◌++◌, sym, ap, ◌∙◌, arith, codes}
use Rattle.std.proofs.lemmas.List.{append_assoc, append-nil}
use Rattle.lam_sample.proofs.Fields.{line_more}
use Rattle.lam_stock.specs.Catalogue.{column_names}
use Rattle.lam_sample.specs.Draws.{step, steps}
use Rattle.lam_sample.specs.SampleStock.{drawn_after}
use Rattle.lam_sample.specs.declared.items.Drawn.{Drawn}
use Rattle.lam_sample.specs.inside.CatalogueText.{fields_of, line_of, lines_after, stock_text}

-- the lines left begin with that of the next item
lines_more : (more k x : ℕ) → lines_after (suc more) k x ≡ line_of (fields_of k (drawn_after x)) [] ++ lines_after more (k + 1) (steps 11 x)
unfolding lines_after
lines_more more k x = sym (line_more (fields_of k (drawn_after x)) (lines_after more (k + 1) (steps 11 x)))

-- the names of the columns, and then the lines of all items
pub text_begun : (text : List ℕ) (x : ℕ) → text ≡ codes "name,kind,e1,e2,n12,g12,xt,xc,yt,yc,s,f12,t,p,q,h,cost\n" → text ++ lines_after 6 1 x ≡ stock_text x
unfolding stock_text
text_begun text x e = rw e (line_more column_names (lines_after 6 1 x))

pub text_more : (old new whole : List ℕ) (k x y : ℕ) (d : Drawn) → k < 7 → old ++ lines_after (7 - k) k x ≡ whole → d ≡ drawn_after x → y ≡ steps 11 x
    → new ≡ old ++ line_of (fields_of k d) [] → new ++ lines_after (7 - (k + 1)) (k + 1) y ≡ whole
text_more old new whole k x y d less so_far drawn next put =
    let left : 7 - k ≡ suc (7 - (k + 1)) = omega arith in
    let begun : lines_after (7 - k) k x ≡ line_of (fields_of k d) [] ++ lines_after (7 - (k + 1)) (k + 1) y =
    rw (left, drawn, next) (lines_more (7 - (k + 1)) k x) in
    rw put (append_assoc old (line_of (fields_of k d) []) (lines_after (7 - (k + 1)) (k + 1) y)) ∙ ap (λ t. old ++ t) (sym begun) ∙ so_far

pub text_whole : (text whole : List ℕ) (k x : ℕ) → 7 ≤ k → text ++ lines_after (7 - k) k x ≡ whole → text ≡ whole
unfolding lines_after
text_whole text whole k x done so_far =
    let none : 7 - k ≡ 0 = omega arith in
    sym (append-nil text) ∙ rw none at so_far

-- steps after steps
steps_more : (i j x : ℕ) → steps i (steps j x) ≡ steps (i + j) x
steps_more zero j x = let none : j ≡ 0 + j = omega arith in ap (λ n. steps n x) none
steps_more (suc i) j x = let one : suc (i + j) ≡ suc i + j = omega arith in ap step (steps_more i j x) ∙ ap (λ n. steps n x) one

pub draws_more : (k x y z : ℕ) → 1 ≤ k → y ≡ steps (11 * (k - 1)) x → z ≡ steps 11 y → z ≡ steps (11 * (k + 1 - 1)) x
draws_more k x y z some so_far next =
    let places : 11 + 11 * (k - 1) ≡ 11 * (k + 1 - 1) = omega arith in
    next ∙ ap (steps 11) so_far ∙ steps_more 11 (11 * (k - 1)) x ∙ ap (λ n. steps n x) places

pub draws_whole : (k x y : ℕ) → 7 ≤ k → k ≤ 7 → y ≡ steps (11 * (k - 1)) x → y ≡ steps 66 x
draws_whole k x y done most so_far =
    let places : 11 * (k - 1) ≡ 66 = omega arith in
    so_far ∙ ap (λ n. steps n x) places
