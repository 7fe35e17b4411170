-- The order that words have.
use Rattle.std.specs.Prelude.{ℕ, List, [], ◌∷◌, Option, Some, None, option_and_then, option_map, codes, bytes_eq, if◌then◌else◌}
use Rattle.lam_words.specs.declared.order.GuideName.{GuideName}
use Rattle.lam_words.specs.declared.order.GuideName.TheVariants.{Cheapest, Thickest, Learner}
use Rattle.lam_words.specs.declared.order.TheConstants.{MOST_NODES, MOST_NUMBER}
use Rattle.lam_words.specs.declared.asked.Search.{Search}
use Rattle.lam_words.specs.Numbers.{number_to}
use Rattle.lam_words.specs.Sorting.{Sorted, sorted_words}

-- an order, by the bytes of its texts
pub data OrderWords : Type 0 where
  design : (job catalogue : List ℕ) → Search → OrderWords
  analyse : (job catalogue schedule : List ℕ) → OrderWords
  check : (job catalogue report : List ℕ) → OrderWords
  sample : (number : ℕ) → Search → OrderWords

abbrev pub guide_named : List ℕ → Option GuideName
guide_named word =
    if bytes_eq word (codes "cheapest") then Some Cheapest
    else (if bytes_eq word (codes "thickest") then Some Thickest
    else (if bytes_eq word (codes "learner") then Some Learner else None))

-- the guide that the option names; without the option, the cheapest first
abbrev pub guide_of : Option (List ℕ) → Option GuideName
guide_of None = Some Cheapest
guide_of (Some word) = guide_named word

-- the most nodes that the option names; without the option, as many as may be
abbrev pub nodes_of : Option (List ℕ) → Option ℕ
nodes_of None = Some MOST_NODES
nodes_of (Some word) = number_to MOST_NODES word

-- a search, where both options have a value that may be
abbrev pub search_of : Option GuideName → Option ℕ → Option Search
search_of (Some guide) (Some nodes) = Some (record { guide = guide; nodes = nodes })
search_of None nodes = None
search_of (Some guide) None = None

abbrev pub sample_order : Option ℕ → Option Search → Option OrderWords
sample_order (Some number) (Some search) = Some (sample number search)
sample_order None search = None
sample_order (Some number) None = None

-- an order of three texts, with which no option stands
abbrev pub without_options : Option (List ℕ) → Option (List ℕ) → OrderWords → Option OrderWords
without_options None None order = Some order
without_options None (Some nodes) order = None
without_options (Some guide) nodes order = None

-- the order that positional texts have beside the values of options
abbrev pub order_of_texts : List (List ℕ) → Option (List ℕ) → Option (List ℕ) → Option OrderWords
order_of_texts [] guide nodes = None
order_of_texts (mode ∷ []) guide nodes = None
order_of_texts (mode ∷ number ∷ []) guide nodes =
    if bytes_eq mode (codes "sample")
    then sample_order (number_to MOST_NUMBER number) (search_of (guide_of guide) (nodes_of nodes))
    else None
order_of_texts (mode ∷ job ∷ catalogue ∷ []) guide nodes =
    if bytes_eq mode (codes "design")
    then option_map (design job catalogue) (search_of (guide_of guide) (nodes_of nodes)) else None
order_of_texts (mode ∷ job ∷ catalogue ∷ third ∷ []) guide nodes =
    if bytes_eq mode (codes "analyse") then without_options guide nodes (analyse job catalogue third)
    else (if bytes_eq mode (codes "check")
    then without_options guide nodes (check job catalogue third) else None)
order_of_texts (mode ∷ job ∷ catalogue ∷ third ∷ more ∷ texts) guide nodes = None

-- the order that sorted words have, if they have one
abbrev pub order_of_sorted : Sorted → Option OrderWords
order_of_sorted s = order_of_texts s.texts s.guide s.nodes

-- the order that the words after the program's name have, if they have one
abbrev pub reading : List (List ℕ) → Option OrderWords
reading words = option_and_then order_of_sorted (sorted_words words)
