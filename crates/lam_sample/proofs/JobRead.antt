-- The document of a sample's job is read as that job.
use Rattle.std.proofs.Common.{◌≡◌, ◌≤◌, ℕ, List, true, Some, None, Ok, int_le, pos, ◌≤ℤ◌, refl, ap, ◌∙◌, arith, rules}
use Rattle.std.specs.Prelude.{IsUtf8}
use Rattle.std.proofs.lemmas.Int.{ints}
use Rattle.std.proofs.lemmas.Str.{is_utf8-from_IsUtf8}
use Rattle.toml.specs.Data.{Members, members_depth}
use Rattle.toml.specs.Parse.{parse_document}
use Rattle.lam_stock.specs.declared.item.Item.{Item}
use Rattle.lam_job.specs.JobOf.{data_of, job_fault, job_of, row_fault, settled, unknown_fault}
use Rattle.lam_sample.specs.SampleJob.{job_with}
use Rattle.lam_sample.specs.declared.loads.Loads.{Loads}
use Rattle.lam_sample.specs.inside.Bounds.{AreLoads}
use Rattle.lam_sample.specs.inside.Document.{job_members}

document : (bytes : List ℕ) (stock : List Item) (ms : Members) → IsUtf8 bytes → parse_document bytes ≡ Some ms
    → job_of bytes stock ≡ settled (job_fault stock ms) (data_of stock ms)
unfolding job_of
document bytes stock ms text parsed = rw (is_utf8-from_IsUtf8 bytes text, parsed) refl

at_most : (a b : ℕ) → a ≤ b → int_le (pos a) (pos b) ≡ true
at_most a b h = let le : pos a ≤ℤ pos b = omega (arith, ints) in search rules

no_fault : (stock : List Item) (l : Loads) → AreLoads l → job_fault stock (job_members l) ≡ None
unfolding row_fault unknown_fault
no_fault stock l h =
    let some : int_le (pos 0) (pos l.pressure) ≡ true = at_most 0 l.pressure (omega arith) in
    let pressure : int_le (pos l.pressure) (pos 100000) ≡ true = at_most l.pressure 100000 (omega (arith, h.pressure)) in
    let least : int_le (pos 1) (pos l.diameter) ≡ true = at_most 1 l.diameter (omega (arith, h.least_diameter)) in
    let diameter : int_le (pos l.diameter) (pos 100000) ≡ true = at_most l.diameter 100000 (omega (arith, h.greatest_diameter)) in
    let nx : int_le (pos l.nx) (pos 1000000000) ≡ true = at_most l.nx 1000000000 (omega (arith, h.nx)) in
    let nxy : int_le (pos l.nxy) (pos 1000000000) ≡ true = at_most l.nxy 1000000000 (omega (arith, h.nxy)) in
    rw (some, pressure, least, diameter, nx, nxy) refl

held : (stock : List Item) (l : Loads) → data_of stock (job_members l) ≡ job_with l
held stock l = refl

pub job_read : (bytes : List ℕ) (stock : List Item) (ms : Members) (l : Loads) → AreLoads l → IsUtf8 bytes → ms ≡ job_members l
    → (members_depth ms ≤ 80 → parse_document bytes ≡ Some ms) → job_of bytes stock ≡ Ok (job_with l)
job_read bytes stock ms l h text same parsed =
    let shallow : members_depth ms ≤ 80 = rw same (omega arith) in
    document bytes stock ms text (parsed shallow) ∙ rw (same, no_fault stock l h) (ap Ok (held stock l))
