pub mod MemberLaws  -- the members of a table
pub mod JobRead  -- a document is read as a job
pub mod Fields  -- plain fields of records
pub mod StockRead  -- an item's record is read as that item
pub mod TextLines  -- how the text and the draws go on
pub mod Kept  -- what the items of a sample keep, and their scale
pub mod CatalogueRead  -- a catalogue is read as its items
pub mod SampleTrials  -- the first sample, tried
pub mod ValidSamples  -- every sample is valid, and its walls in range
