pub mod LineText  -- a text as lines, and the lines of bytes
pub mod ReportText  -- the texts of an analysis and of a report
pub mod ReportGrammar  -- which bytes spell a report, and where others stop doing so
pub mod inside  -- words that calls need and nobody has to believe
