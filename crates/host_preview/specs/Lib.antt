pub mod PreviewCalls
