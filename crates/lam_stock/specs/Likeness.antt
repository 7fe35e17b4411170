-- Which items of a catalogue have a name, are alike, and are mirror images of each other.
use Rattle.std.specs.Prelude.{ℕ, Bool, true, false, ◌&&◌, List, [], ◌∷◌, Option, Some, None, ℤ, ◌*ℤ◌, position, slice_get}
use Rattle.std.specs.Cmp.Lexicographic.{pointwise}
use Rattle.std.specs.Ordering.{int_eq}
use Rattle.std.specs.Str.{bytes_eq}
use Rattle.lam_direction.specs.Circle.{CirclePoint, mirror_of}
use Rattle.lam_stock.specs.declared.item.Item.{Item}
use Rattle.lam_stock.specs.declared.item.Kind.{Kind}
use Rattle.lam_stock.specs.declared.item.Kind.TheVariants.{Ply, Pair}
use Rattle.lam_stock.specs.declared.item.Lamina.{Lamina}

-- an item has a name
abbrev pub has_name : List ℕ → Item → Bool
has_name name i = bytes_eq i.name name

-- the place of the first item of a name
abbrev pub place_of : List ℕ → List Item → Option ℕ
place_of name items = position (has_name name) items

-- an item is a ply
abbrev pub is_ply : Kind → Bool
is_ply Ply = true
is_ply Pair = false

-- two kinds are the same
abbrev pub same_kind : Kind → Kind → Bool
same_kind Ply Ply = true
same_kind Ply Pair = false
same_kind Pair Ply = false
same_kind Pair Pair = true

-- the numbers of a lamina
abbrev pub lamina_numbers : Lamina → List ℤ
lamina_numbers l = l.e1 ∷ l.e2 ∷ l.n12 ∷ l.g12 ∷ l.xt ∷ l.xc ∷ l.yt ∷ l.yc ∷ l.s ∷ l.f12 ∷ l.t ∷ []

-- two laminae are the same
abbrev pub same_lamina : Lamina → Lamina → Bool
same_lamina a b = pointwise int_eq (lamina_numbers a) (lamina_numbers b)

-- two directions are the same point of the unit circle
abbrev pub same_point : CirclePoint → CirclePoint → Bool
same_point a b = int_eq (a.p *ℤ b.h) (b.p *ℤ a.h) && int_eq (a.q *ℤ b.h) (b.q *ℤ a.h)

-- two items have the same kind, lamina and direction
abbrev pub is_alike : Item → Item → Bool
is_alike a b = same_kind a.kind b.kind && same_lamina a.lamina b.lamina && same_point a.dir b.dir

-- two items are plies of the same lamina, and the direction of the first is the mirror image of that of the second
abbrev pub is_mirror : Item → Item → Bool
is_mirror a b = is_ply a.kind && is_ply b.kind && same_lamina a.lamina b.lamina && same_point a.dir (mirror_of b.dir)

-- a test of the items at two places
abbrev pub of_both : (Item → Item → Bool) → Option Item → Option Item → Bool
of_both test (Some a) (Some b) = test a b
of_both test (Some a) None = false
of_both test None b = false

abbrev pub are_alike : List Item → ℕ → ℕ → Bool
are_alike items a b = of_both is_alike (slice_get items a) (slice_get items b)

abbrev pub are_mirrors : List Item → ℕ → ℕ → Bool
are_mirrors items a b = of_both is_mirror (slice_get items a) (slice_get items b)
