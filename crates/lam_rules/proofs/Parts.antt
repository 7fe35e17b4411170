-- What completes a partial schedule, in parts: its prefix, plies at the open places, and the mirror images of the prefix.
use Rattle.std.proofs.Common.{◌≡◌, refl, sym, ◌∙◌, ap, subst, ℕ, ◌+◌, ◌-◌, ◌≤◌, ◌<◌, List, [], ◌++◌, reverse, length, take, drop, All, Bool, true, false, IsTrue, min, arith}
use Rattle.std.proofs.lemmas.List.{append-nil, length-append, length-drop, length-reverse, length-take, reverse-append, take-append-drop, take-append-le, take_min, drop-drop}
use Rattle.std.proofs.lemmas.List.Elements.{All-drop, All-take}
use Rattle.std.proofs.Math.Seq.{drop-append_seam}
use Rattle.lam_stock.specs.declared.item.Item.{Item}
use Rattle.lam_stock.specs.declared.item.ItemNo.{ItemNo}
use Rattle.lam_job.specs.JobData.{JobData}
use Rattle.lam_job.specs.Rules.{IsPalindrome}
use Rattle.lam_job.specs.Partial.{Partial, Completes, fixed_plies, open_places}

-- the mirror images of the places of a prefix that have one behind it
abbrev pub mirror_images : Bool → Partial → List ItemNo
mirror_images true p = reverse (take (p.n - length p.prefix) p.prefix)
mirror_images false p = []

-- a list in parts
pub record InParts (prefix mirrored listed : List ItemNo) (places : ℕ) : Type 0 where
  pub between : List ItemNo
  pub parts : listed ≡ prefix ++ (between ++ mirrored)
  pub long : length between ≡ places
  pub known : (n : ℕ) → All (λ ply. ply.0 < n) listed → All (λ ply. ply.0 < n) between

pub fixed_in_parts : (job : JobData) (p : Partial) → fixed_plies job p ≡ p.prefix ++ mirror_images job.rules.symmetric p
fixed_in_parts job p = by job.rules.symmetric where
  by : (symmetric : Bool) → fixed_plies (record job { rules = record job.rules { symmetric = symmetric } }) p ≡ p.prefix ++ mirror_images symmetric p
  by true = refl
  by false = sym (append-nil p.prefix)

-- the plies behind the first h of a palindrome are the mirror image of as many at its start
behind : (h k : ℕ) (plies : List ItemNo) → IsPalindrome plies → length plies ≡ h + k → drop h plies ≡ reverse (take k plies)
behind h k plies same long =
    let t = take k plies in
    let d = drop k plies in
    let turned : plies ≡ reverse d ++ reverse t = same ∙ ap reverse (sym (take-append-drop k plies)) ∙ reverse-append t d in
    let first : length (reverse d) ≡ h = length-reverse d ∙ (let e = length-drop k plies in omega (arith, e, long)) in
    ap (drop h) turned ∙ ap (λ n. drop n (reverse d ++ reverse t)) (sym first) ∙ drop-append_seam (reverse d) (reverse t)

-- the prefix is no longer than what begins with it
begins_within : (prefix listed : List ItemNo) → take (length prefix) listed ≡ prefix → length prefix ≤ length listed
begins_within prefix listed begins =
    let e : length (take (length prefix) listed) ≡ length prefix = ap length begins in
    let t = length-take (length prefix) listed in
    omega (arith, e, t)

begins_with : (prefix listed : List ItemNo) → take (length prefix) listed ≡ prefix → listed ≡ prefix ++ drop (length prefix) listed
begins_with prefix listed begins =
    sym (take-append-drop (length prefix) listed) ∙ ap (λ l. l ++ drop (length prefix) listed) begins

in_parts : (symmetric : Bool) (p : Partial) (listed : List ItemNo) → length listed ≡ p.n → take (length p.prefix) listed ≡ p.prefix
    → (IsTrue symmetric → IsPalindrome listed) → InParts p.prefix (mirror_images symmetric p) listed (p.n - (length p.prefix + length (mirror_images symmetric p)))
in_parts false p listed long begins mirrors =
    let k = length p.prefix in
    let rest = drop k listed in
    let r = length-drop k listed in
    record {
      between = rest;
      parts = begins_with p.prefix listed begins ∙ ap (λ l. p.prefix ++ l) (sym (append-nil rest));
      long = omega (arith, r, long);
      known = λ n all. All-drop (λ (ply : ItemNo). ply.0 < n) k listed all;
    }
in_parts true p listed long begins mirrors =
    let k = length p.prefix in
    let m = p.n - k in
    let t = take m p.prefix in
    let j = min m k in
    let rest = drop k listed in
    let within = begins_within p.prefix listed begins in
    let r = length-drop k listed in
    let images : length t ≡ j = length-take m p.prefix in
    let turned : length (reverse t) ≡ j = length-reverse t ∙ images in
    let start : take j listed ≡ t
    = ap (take j) (begins_with p.prefix listed begins) ∙ take-append-le j p.prefix rest (omega arith) ∙ take_min m p.prefix in
    let tail : drop (m - j) rest ≡ reverse t
    = drop-drop (m - j) k listed ∙ behind (k + (m - j)) j listed (mirrors refl) (omega (arith, long, within)) ∙ ap reverse start in
    let short = length-take (m - j) rest in
    record {
      between = take (m - j) rest;
      parts = begins_with p.prefix listed begins
          ∙ ap (λ l. p.prefix ++ l) (sym (take-append-drop (m - j) rest) ∙ ap (λ l. take (m - j) rest ++ l) tail);
      long = omega (arith, short, r, turned, long, within);
      known = λ n all. All-take (λ (ply : ItemNo). ply.0 < n) (m - j) rest (All-drop (λ (ply : ItemNo). ply.0 < n) k listed all);
    }

-- each completion is the fixed plies with others at the open places
pub completion_in_parts : (stock : List Item) (job : JobData) (p : Partial) (listed : List ItemNo) → Completes stock job p listed
    → InParts p.prefix (mirror_images job.rules.symmetric p) listed (open_places job p)
completion_in_parts stock job p listed c =
    let images = mirror_images job.rules.symmetric p in
    subst (InParts p.prefix images listed)
    (ap (λ n. p.n - n) (sym (ap length (fixed_in_parts job p) ∙ length-append p.prefix images)))
    (in_parts job.rules.symmetric p listed c.long c.begins c.symmetric)
