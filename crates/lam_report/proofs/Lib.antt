-- how texts go into a sink, one after the other
pub mod Handing
-- readers of lines, and what they say of a grammar
pub mod Parsing
-- bytes are their whole lines, and what stands behind them
pub mod CutLaws
-- lines that go into a sink, one after the other
pub mod TextLaws
-- what a writer knows of a report
pub mod WriteLaws
-- loops that read a list by parts
pub mod ListLoops
-- each line of a report is read as what it says
pub mod SpellLaws
-- what the reader of a line of a node answers
pub mod LineNodes
-- the lines of ratios are read as those ratios
pub mod RatioLaws
-- the names of plies are read as those plies
pub mod NameLaws
-- the lines of a report are read as that report
pub mod GrammarLaws
-- bytes that spell a report, and bytes that stop doing so
pub mod FaultLaws
-- what a reader of a report answers
pub mod ReadLaws
-- how many bytes the text of a report takes at most
pub mod Lengths
-- a text that has room in a sink in memory is written whole
pub mod RoomLaws
