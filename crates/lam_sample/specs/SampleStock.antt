-- The catalogue of a sample: six pairs.
use Rattle.std.specs.Prelude.{ℕ, zero, suc, ◌+◌, ◌*◌, pos, List, [], ◌∷◌, ◌++◌, get_or, codes}
use Rattle.std.specs.Fmt.{decimal}
use Rattle.lam_stock.specs.declared.item.Item.{Item}
use Rattle.lam_stock.specs.declared.item.Kind.TheVariants.{Pair}
use Rattle.lam_sample.specs.declared.items.Drawn.{Drawn}
use Rattle.lam_sample.specs.declared.items.Point.{Point}
use Rattle.lam_sample.specs.Draws.{draw, steps}

abbrev pub point : ℕ → ℕ → ℕ → Point
point p q h = record { p = p; q = q; h = h }

-- the directions that are drawn from
abbrev pub directions : List Point
directions =
    point 1 0 1 ∷ point 0 1 1 ∷ point 3 4 5 ∷ point 4 3 5 ∷ point 5 12 13 ∷ point 12 5 13 ∷ point 160 231 281 ∷ point 119 120 169 ∷ []

abbrev pub direction : ℕ → Point
direction n = get_or directions n (point 1 0 1)

-- the numbers of an item that are drawn, after a state
abbrev pub drawn_after : ℕ → Drawn
drawn_after x = record {
  e1 = 5000 + 1000 * draw 1 40 x;
  e2 = 5000 + 1000 * draw 2 10 x;
  g12 = 2000 + 100 * draw 3 30 x;
  xt = 100000 + 1000 * draw 4 400 x;
  xc = 80000 + 1000 * draw 5 300 x;
  yt = 40000 + 1000 * draw 6 40 x;
  yc = 100000 + 1000 * draw 7 60 x;
  s = 40000 + 1000 * draw 8 40 x;
  t = 500 + 100 * draw 9 20 x;
  direction = direction (draw 10 8 x);
  cost = 10 + draw 11 90 x;
}

-- the item of a number and of what is drawn: a pair
abbrev pub sample_item : ℕ → Drawn → Item
sample_item k d = record {
  name = codes "i" ++ decimal k;
  kind = Pair;
  lamina = record {
    e1 = pos d.e1;
    e2 = pos d.e2;
    n12 = pos 200;
    g12 = pos d.g12;
    xt = pos d.xt;
    xc = pos d.xc;
    yt = pos d.yt;
    yc = pos d.yc;
    s = pos d.s;
    f12 = pos 0;
    t = pos d.t;
  };
  dir = record { p = pos d.direction.p; q = pos d.direction.q; h = pos d.direction.h };
  cost = d.cost;
}

-- so many items, numbered from k on, drawn one after the other after a state
abbrev pub items_after : ℕ → ℕ → ℕ → List Item
items_after zero k x = []
items_after (suc more) k x = sample_item k (drawn_after x) ∷ items_after more (k + 1) (steps 11 x)

-- the catalogue of a number
abbrev pub sample_stock : ℕ → List Item
sample_stock number = items_after 6 1 number
