-- What files in memory tell.
use Rattle.std.specs.Prelude.{◌≡◌, ℕ, List, Option, None, ◌⊎◌}
use Rattle.std.specs.Option.{option_map, option_map_or}
use Rattle.std.specs.BTreeMap.{get_by_text}
use Rattle.lam_outside.specs.declared.kept_files.MemoryFiles.{MemoryFiles}
use Rattle.lam_outside.specs.Calls.{Calls}

-- the contents of the name, or None where it is absent
abbrev pub told : MemoryFiles → List ℕ → Option (List ℕ)
told files name = option_map (λ kept. kept.contents) (get_by_text files.kept name)

-- the count of faults of the name: its own, or the one of all absent names
abbrev pub faults_of : MemoryFiles → List ℕ → ℕ
faults_of files name = option_map_or (λ kept. kept.faults) (get_by_text files.kept name) files.absent

-- how many times `take` was called, and which of its calls fail
abbrev pub calls_of : MemoryFiles → Calls
calls_of files = files.calls

-- the two names have one count: they are the same, or both are absent
abbrev pub SharesCount : (List ℕ → Option (List ℕ)) → List ℕ → List ℕ → Type 0
SharesCount contents a b = (a ≡ b) ⊎ ((contents a ≡ None) × (contents b ≡ None))
