pub mod EntryLines
