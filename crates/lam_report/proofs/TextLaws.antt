-- Lines that go into a sink, one after the other.
use Rattle.std.proofs.Common.{◌≡◌, ◌∙◌, sym, ap, subst, ℕ, zero, suc, ◌+◌, ◌<◌, List, [], ◌∷◌, ◌++◌, length, take, get_or, arith}
use Rattle.std.specs.Prelude.{map}
use Rattle.std.proofs.lemmas.List.{length-take-le, map-append, take_more}
use Rattle.lam_tree.specs.Lines.{spaced}
use Rattle.lam_tree.proofs.Adding.{spaced-append}
use Rattle.lam_report.specs.LineText.{text_of}
use Rattle.lam_report.specs.ReportText.{numbered, counted}
use Rattle.lam_report.specs.inside.Pieces.{SinkView, Kept, Hands}
use Rattle.lam_report.specs.inside.Reading.{Lines}
use Rattle.lam_report.proofs.CutLaws.{text_of-append}
use Rattle.lam_report.proofs.Handing.{Hands-then}

-- the same text
pub hands_same : {a b : SinkView} {k l : Kept} {text other : List ℕ} → text ≡ other → Hands a k b l text → Hands a k b l other
hands_same {a} {b} {k} {l} e hands = subst (Hands a k b l) e hands

-- lines, and then more
pub lines_then : {a b c : SinkView} {k l m : Kept} (xs ys : Lines) → Hands a k b l (text_of xs) → Hands b l c m (text_of ys) → Hands a k c m (text_of (xs ++ ys))
lines_then {a} {b} {c} {k} {l} {m} xs ys one other = hands_same (sym (text_of-append xs ys)) (Hands-then one other)

-- a line, under another name
pub line_is : {a b : SinkView} {k l : Kept} {line other : List ℕ} → line ≡ other → Hands a k b l (text_of (line ∷ [])) → Hands a k b l (text_of (other ∷ []))
line_is {a} {b} {k} {l} e hands = subst (λ t. Hands a k b l (text_of (t ∷ []))) e hands

-- ---- lists that are put one by one

pub numbered-append : (f : ℕ → ℕ → List ℕ) (n : ℕ) (xs ys : List ℕ) → numbered f n (xs ++ ys) ≡ numbered f n xs ++ numbered f (n + length xs) ys
numbered-append f n [] ys = let same : n ≡ n + 0 = omega arith in ap (λ m. numbered f m ys) same
numbered-append f n (x ∷ xs) ys =
    let same : suc n + length xs ≡ n + suc (length xs) = omega arith in
    ap (λ t. f n x ∷ t) (numbered-append f (suc n) xs ys ∙ ap (λ m. numbered f (suc n) xs ++ numbered f m ys) same)

pub numbered-more : (f : ℕ → ℕ → List ℕ) (xs : List ℕ) (k : ℕ) → k < length xs
    → numbered f 0 (take (k + 1) xs) ≡ numbered f 0 (take k xs) ++ f k (get_or xs k 0) ∷ []
numbered-more f xs k less =
    let long : 0 + length (take k xs) ≡ k = let e = length-take-le k xs (omega (arith, less)) in omega (arith, e) in
    ap (numbered f 0) (take_more xs k 0 less) ∙ numbered-append f 0 (take k xs) (get_or xs k 0 ∷ [])
    ∙ ap (λ m. numbered f 0 (take k xs) ++ f m (get_or xs k 0) ∷ []) long

pub mapped-more : {X : Type 0} (f : X → List ℕ) (xs : List X) (k : ℕ) (d : X) → k < length xs → map f (take (k + 1) xs) ≡ map f (take k xs) ++ f (get_or xs k d) ∷ []
mapped-more f xs k d less = ap (map f) (take_more xs k d less) ∙ map-append f (take k xs) (get_or xs k d ∷ [])

pub spaced-more : {X : Type 0} (f : X → List ℕ) (xs : List X) (k : ℕ) (d : X) → k < length xs
    → spaced (map f (take (k + 1) xs)) ≡ spaced (map f (take k xs)) ++ spaced (f (get_or xs k d) ∷ [])
spaced-more f xs k d less = ap spaced (mapped-more f xs k d less) ∙ spaced-append (map f (take k xs)) (f (get_or xs k d) ∷ [])

pub counted-more : (f : ℕ → List ℕ) (n k : ℕ) → counted f n (suc k) ≡ counted f n k ++ f (n + k) ∷ []
counted-more f n zero = let same : n ≡ n + 0 = omega arith in ap (λ m. f m ∷ []) same
counted-more f n (suc k) =
    let same : suc n + k ≡ n + suc k = omega arith in
    ap (λ t. f n ∷ t) (counted-more f (suc n) k ∙ ap (λ m. counted f (suc n) k ++ f m ∷ []) same)

pub counted-next : (f : ℕ → List ℕ) (k : ℕ) → counted f 0 (k + 1) ≡ counted f 0 k ++ f k ∷ []
counted-next f k =
    let next : k + 1 ≡ suc k = omega arith in
    let same : 0 + k ≡ k = omega arith in
    ap (counted f 0) next ∙ counted-more f 0 k ∙ ap (λ m. counted f 0 k ++ f m ∷ []) same
