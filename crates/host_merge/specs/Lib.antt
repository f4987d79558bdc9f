pub mod MergeCalls
