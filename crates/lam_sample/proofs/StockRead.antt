-- The text of a sample's catalogue is read as its items.
use Rattle.std.proofs.Common.{◌≡◌, ◌<◌, ◌≤◌, ◌+◌, ℕ, zero, suc, true, false, ◌==◌, nat_le, List, [], ◌∷◌, ◌++◌, length, Some, Result, Ok, Err, ℤ, pos, ◌*ℤ◌, is_ok, codes, refl, arith}
use Rattle.std.specs.Prelude.{⊤, drop, map, unsigned_abs}
use Rattle.std.specs.Fmt.{decimal}
use Rattle.std.specs.List.{list_any}
use Rattle.std.proofs.Math.Nat.{mod-lt}
use Rattle.std.proofs.lemmas.Bool.Decides.{nat_tests}
use Rattle.std.proofs.lemmas.Fmt.{decimal_digit}
use Rattle.std.proofs.lemmas.Int.{clamps, ints}
use Rattle.lam_direction.specs.Circle.{CirclePoint, IsDirection}
use Rattle.lam_direction.specs.Reading.{direction_of}
use Rattle.lam_stock.proofs.NumberLaws.{signed_again}
use Rattle.lam_stock.proofs.TestFacts.{limits-tell}
use Rattle.lam_stock.specs.Catalogue.{Fields, at, column, item_of, lamina_of, numbers_of}
use Rattle.lam_stock.specs.Field.{is_name, is_name_byte, kind_of, number_of}
use Rattle.lam_stock.specs.LimitNumbers.{most_items}
use Rattle.lam_stock.specs.Likeness.{has_name}
use Rattle.lam_stock.specs.Limits.{KeepsLimits}
use Rattle.lam_stock.specs.Tests.{limits_of}
use Rattle.lam_stock.specs.declared.fault.StockCause.{StockCause}
use Rattle.lam_stock.specs.declared.item.Item.{Item}
use Rattle.lam_stock.specs.declared.item.Kind.{Kind}
use Rattle.lam_stock.specs.declared.item.Kind.TheVariants.{Pair}
use Rattle.lam_sample.proofs.Fields.{AllPlain, decimal_plain, decimal_word, word_plain}
use Rattle.lam_sample.specs.Draws.{draw}
use Rattle.lam_sample.specs.SampleStock.{direction, drawn_after, sample_item}
use Rattle.lam_sample.specs.declared.items.Drawn.{Drawn}
use Rattle.lam_sample.specs.declared.items.Point.{Point}
use Rattle.lam_sample.specs.inside.Bounds.{IsDrawn}
use Rattle.lam_sample.specs.inside.CatalogueText.{fields_of}

-- ---- what is drawn is in its ranges

pub below : (place m x : ℕ) → 0 < m → draw place m x < m
below place m x some = mod-lt _ some

-- a point is a direction, as it is read
abbrev on_circle : Point → CirclePoint
on_circle d = record { p = pos d.p; q = pos d.q; h = pos d.h }

record Directs (d : Point) : Type 0 where
  read : direction_of (pos d.p) (pos d.q) (pos d.h) ≡ Ok (on_circle d)
  is : IsDirection (on_circle d)
  p : d.p ≤ 1000
  q : d.q ≤ 1000
  h : d.h ≤ 1000

directs : (n : ℕ) → n < 8 → Directs (direction n)
directs zero h = record { read = refl; is = record { least_size = omega (arith, ints); greatest_size = omega (arith, ints); on_circle = refl; first_half = omega (arith, ints); axis_upwards = λ e. absurd (omega (arith, ints, e)) }; p = omega arith; q = omega arith; h = omega arith }
directs (suc zero) h = record { read = refl; is = record { least_size = omega (arith, ints); greatest_size = omega (arith, ints); on_circle = refl; first_half = omega (arith, ints); axis_upwards = λ e. refl }; p = omega arith; q = omega arith; h = omega arith }
directs (suc (suc zero)) h = record { read = refl; is = record { least_size = omega (arith, ints); greatest_size = omega (arith, ints); on_circle = refl; first_half = omega (arith, ints); axis_upwards = λ e. absurd (omega (arith, ints, e)) }; p = omega arith; q = omega arith; h = omega arith }
directs (suc (suc (suc zero))) h = record { read = refl; is = record { least_size = omega (arith, ints); greatest_size = omega (arith, ints); on_circle = refl; first_half = omega (arith, ints); axis_upwards = λ e. absurd (omega (arith, ints, e)) }; p = omega arith; q = omega arith; h = omega arith }
directs (suc (suc (suc (suc zero)))) h = record { read = refl; is = record { least_size = omega (arith, ints); greatest_size = omega (arith, ints); on_circle = refl; first_half = omega (arith, ints); axis_upwards = λ e. absurd (omega (arith, ints, e)) }; p = omega arith; q = omega arith; h = omega arith }
directs (suc (suc (suc (suc (suc zero))))) h = record { read = refl; is = record { least_size = omega (arith, ints); greatest_size = omega (arith, ints); on_circle = refl; first_half = omega (arith, ints); axis_upwards = λ e. absurd (omega (arith, ints, e)) }; p = omega arith; q = omega arith; h = omega arith }
directs (suc (suc (suc (suc (suc (suc zero)))))) h = record { read = refl; is = record { least_size = omega (arith, ints); greatest_size = omega (arith, ints); on_circle = refl; first_half = omega (arith, ints); axis_upwards = λ e. absurd (omega (arith, ints, e)) }; p = omega arith; q = omega arith; h = omega arith }
directs (suc (suc (suc (suc (suc (suc (suc zero))))))) h = record { read = refl; is = record { least_size = omega (arith, ints); greatest_size = omega (arith, ints); on_circle = refl; first_half = omega (arith, ints); axis_upwards = λ e. absurd (omega (arith, ints, e)) }; p = omega arith; q = omega arith; h = omega arith }
directs (suc (suc (suc (suc (suc (suc (suc (suc n)))))))) h = absurd (omega arith)

pub drawn_within : (x : ℕ) → IsDrawn (drawn_after x)
drawn_within x =
    let e1 : draw 1 40 x < 40 = below 1 40 x (omega arith) in
    let e2 : draw 2 10 x < 10 = below 2 10 x (omega arith) in
    let g12 : draw 3 30 x < 30 = below 3 30 x (omega arith) in
    let xt : draw 4 400 x < 400 = below 4 400 x (omega arith) in
    let xc : draw 5 300 x < 300 = below 5 300 x (omega arith) in
    let yt : draw 6 40 x < 40 = below 6 40 x (omega arith) in
    let yc : draw 7 60 x < 60 = below 7 60 x (omega arith) in
    let s : draw 8 40 x < 40 = below 8 40 x (omega arith) in
    let t : draw 9 20 x < 20 = below 9 20 x (omega arith) in
    let cost : draw 11 90 x < 90 = below 11 90 x (omega arith) in
    let d = directs (draw 10 8 x) (below 10 8 x (omega arith)) in
    record {
      least_e1 = omega arith;
      greatest_e1 = omega (arith, e1);
      least_e2 = omega arith;
      greatest_e2 = omega (arith, e2);
      least_g12 = omega arith;
      greatest_g12 = omega (arith, g12);
      least_xt = omega arith;
      greatest_xt = omega (arith, xt);
      least_xc = omega arith;
      greatest_xc = omega (arith, xc);
      least_yt = omega arith;
      greatest_yt = omega (arith, yt);
      least_yc = omega arith;
      greatest_yc = omega (arith, yc);
      least_s = omega arith;
      greatest_s = omega (arith, s);
      least_t = omega arith;
      greatest_t = omega (arith, t);
      direction = d.read;
      is_direction = d.is;
      greatest_p = d.p;
      greatest_q = d.q;
      greatest_h = d.h;
      greatest_cost = omega (arith, cost);
    }

-- ---- an item keeps the limits

no_cross : (x : ℤ) → (pos 4 *ℤ (pos 0 *ℤ pos 0) *ℤ x) ≡ pos 0
no_cross x = grind (arith, ints)

pub keeps_limits : (k : ℕ) (d : Drawn) → IsDrawn d → KeepsLimits (sample_item k d).lamina (pos d.cost)
keeps_limits k d w =
    let l = (sample_item k d).lamina in
    let cross = no_cross ((l.xt *ℤ l.xc) *ℤ (l.yt *ℤ l.yc)) in
    record {
      range = record {
        moduli = record {
          least_e1 = omega (arith, ints, w.least_e1);
          greatest_e1 = omega (arith, ints, w.greatest_e1);
          least_e2 = omega (arith, ints, w.least_e2);
          greatest_e2 = omega (arith, ints, w.greatest_e2);
          least_n12 = omega (arith, ints);
          greatest_n12 = omega (arith, ints);
          least_g12 = omega (arith, ints, w.least_g12);
          greatest_g12 = omega (arith, ints, w.greatest_g12);
        };
        strengths = record {
          xt = record { least = omega (arith, ints, w.least_xt); greatest = omega (arith, ints, w.greatest_xt) };
          xc = record { least = omega (arith, ints, w.least_xc); greatest = omega (arith, ints, w.greatest_xc) };
          yt = record { least = omega (arith, ints, w.least_yt); greatest = omega (arith, ints, w.greatest_yt) };
          yc = record { least = omega (arith, ints, w.least_yc); greatest = omega (arith, ints, w.greatest_yc) };
          s = record { least = omega (arith, ints, w.least_s); greatest = omega (arith, ints, w.greatest_s) };
        };
        rest = record {
          least_f12 = omega (arith, ints);
          greatest_f12 = omega (arith, ints);
          least_t = omega (arith, ints, w.least_t);
          greatest_t = omega (arith, ints, w.greatest_t);
          least_cost = omega (arith, ints);
          greatest_cost = omega (arith, ints, w.greatest_cost);
        };
      };
      poisson = record { kept = omega (arith, ints, w.greatest_e2, w.least_e1) };
      ratio = record {
        along = record { first = omega (arith, ints, w.greatest_xt, w.least_xc); second = omega (arith, ints, w.greatest_xc, w.least_xt) };
        across = record { first = omega (arith, ints, w.greatest_yt, w.least_yc); second = omega (arith, ints, w.greatest_yc, w.least_yt) };
      };
      cross = record { kept = rw cross (omega (arith, ints)) };
      slack = record {
        xt = record { kept = omega (arith, ints, clamps, w.greatest_e1, w.greatest_e2, w.greatest_g12, w.least_xt) };
        xc = record { kept = omega (arith, ints, clamps, w.greatest_e1, w.greatest_e2, w.greatest_g12, w.least_xc) };
        yt = record { kept = omega (arith, ints, clamps, w.greatest_e1, w.greatest_e2, w.greatest_g12, w.least_yt) };
        yc = record { kept = omega (arith, ints, clamps, w.greatest_e1, w.greatest_e2, w.greatest_g12, w.least_yc) };
        s = record { kept = omega (arith, ints, clamps, w.greatest_e1, w.greatest_e2, w.greatest_g12, w.least_s) };
      };
    }

-- ---- a record is read as its item

is_kept : (r : Result (Unit {0}) StockCause) → is_ok r ≡ true → r ≡ Ok tt
is_kept (Ok kept) h = refl
is_kept (Err why) h = cc h

-- fields that keep clear of each cause are an item
reads : (earlier : List Item) (fields : Fields) (kind : Kind) (ns : List ℤ) (p : CirclePoint) → nat_le most_items (length earlier) ≡ false
    → (length fields == 17) ≡ true → is_name (column fields 0) ≡ true → list_any (has_name (column fields 0)) earlier ≡ false
    → kind_of (column fields 1) ≡ Some kind → numbers_of (drop 2 fields) ≡ Some ns → limits_of (lamina_of ns) (at ns 14) ≡ Ok tt
    → direction_of (at ns 11) (at ns 12) (at ns 13) ≡ Ok p
    → item_of earlier fields ≡ Ok (record { name = column fields 0; kind = kind; lamina = lamina_of ns; dir = p; cost = unsigned_abs (at ns 14) })
reads earlier fields kind ns p few count named apart of_kind numbers limits points = rw (few, count, named, apart, of_kind, numbers, limits, points) refl

-- fields beside the numbers that they stand for
abbrev AllRead : List (List ℕ × ℤ) → Type 0
AllRead [] = ⊤
AllRead (p ∷ ps) = (number_of p.0 ≡ Some p.1) × AllRead ps

all_read : (ps : List (List ℕ × ℤ)) → AllRead ps → numbers_of (map (λ p. p.0) ps) ≡ Some (map (λ p. p.1) ps)
all_read [] h = refl
all_read (p ∷ ps) h = rw (h.0, all_read ps h.1) refl

number : (n : ℕ) → n ≤ 1000000 → number_of (decimal n) ≡ Some (pos n)
number n small = signed_again (pos n) (omega (arith, small))

-- the number fields of an item's record, and what they stand for
abbrev number_fields : Drawn → List (List ℕ × ℤ)
number_fields d =
    (decimal d.e1, pos d.e1) ∷ (decimal d.e2, pos d.e2) ∷ (codes "200", pos 200) ∷ (decimal d.g12, pos d.g12) ∷ (decimal d.xt, pos d.xt) ∷ (decimal d.xc, pos d.xc) ∷ (decimal d.yt, pos d.yt) ∷ (decimal d.yc, pos d.yc) ∷ (decimal d.s, pos d.s) ∷ (codes "0", pos 0) ∷ (decimal d.t, pos d.t) ∷ (decimal d.direction.p, pos d.direction.p) ∷ (decimal d.direction.q, pos d.direction.q) ∷ (decimal d.direction.h, pos d.direction.h) ∷ (decimal d.cost, pos d.cost) ∷ []

abbrev numbers : Drawn → List ℤ
numbers d = map (λ p. p.1) (number_fields d)

numbers_read : (k : ℕ) (d : Drawn) → IsDrawn d → numbers_of (drop 2 (fields_of k d)) ≡ Some (numbers d)
numbers_read k d w =
    all_read (number_fields d)
    (number d.e1 (omega (arith, w.greatest_e1)), (number d.e2 (omega (arith, w.greatest_e2)), (refl, (number d.g12 (omega (arith, w.greatest_g12)), (number d.xt (omega (arith, w.greatest_xt)), (number d.xc (omega (arith, w.greatest_xc)), (number d.yt (omega (arith, w.greatest_yt)), (number d.yc (omega (arith, w.greatest_yc)), (number d.s (omega (arith, w.greatest_s)), (refl, (number d.t (omega (arith, w.greatest_t)), (number d.direction.p (omega (arith, w.greatest_p)), (number d.direction.q (omega (arith, w.greatest_q)), (number d.direction.h (omega (arith, w.greatest_h)), (number d.cost (omega (arith, w.greatest_cost)), tt)))))))))))))))

name_valid : (k : ℕ) → k < 10 → is_name (codes "i" ++ decimal k) ≡ true
name_valid k small = rw (decimal_digit k small) (let byte : is_name_byte (48 + k) ≡ true = grind (arith, nat_tests) in rw byte refl)

pub item_read : (earlier : List Item) (k : ℕ) (d : Drawn) → IsDrawn d → k < 10 → length earlier < 64
    → list_any (has_name (codes "i" ++ decimal k)) earlier ≡ false → item_of earlier (fields_of k d) ≡ Ok (sample_item k d)
item_read earlier k d w small few apart =
    let room : nat_le most_items (length earlier) ≡ false = grind (arith, nat_tests) in
    let kept = is_kept _ ((limits-tell (lamina_of (numbers d)) (pos d.cost)).1 (keeps_limits k d w)) in
    reads earlier (fields_of k d) Pair (numbers d) _ room refl (name_valid k small) apart refl (numbers_read k d w) kept w.direction

-- ---- the fields of a record are plain

pub fields_plain : (k : ℕ) (d : Drawn) → IsDrawn d → k < 10 → AllPlain (fields_of k d)
fields_plain k d w small =
    (word_plain (codes "i" ++ decimal k) (decimal_word k (omega (arith, small))), (word_plain (codes "pair") refl, (decimal_plain d.e1 (omega (arith, w.greatest_e1)), (decimal_plain d.e2 (omega (arith, w.greatest_e2)), (word_plain (codes "200") refl, (decimal_plain d.g12 (omega (arith, w.greatest_g12)), (decimal_plain d.xt (omega (arith, w.greatest_xt)), (decimal_plain d.xc (omega (arith, w.greatest_xc)), (decimal_plain d.yt (omega (arith, w.greatest_yt)), (decimal_plain d.yc (omega (arith, w.greatest_yc)), (decimal_plain d.s (omega (arith, w.greatest_s)), (word_plain (codes "0") refl, (decimal_plain d.t (omega (arith, w.greatest_t)), (decimal_plain d.direction.p (omega (arith, w.greatest_p)), (decimal_plain d.direction.q (omega (arith, w.greatest_q)), (decimal_plain d.direction.h (omega (arith, w.greatest_h)), (decimal_plain d.cost (omega (arith, w.greatest_cost)), tt)))))))))))))))))
