pub mod PenCalls
