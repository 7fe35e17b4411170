-- the formulas are the ply law
pub mod Identities
-- what the limits on a lamina say of its stiffness
pub mod Moduli
-- twice the strain energy of a layer
pub mod Form
-- sizes: of the moduli, of the powers, of the entries
pub mod Bounds
pub mod Fourths
pub mod Entries
-- what is known of each as it is computed
pub mod ReducedKnown
pub mod PowersKnown
pub mod StiffnessKnown
-- the items of a catalogue
pub mod Catalogue
-- the table of their stiffnesses
pub mod TableKnown
