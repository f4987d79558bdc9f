pub mod PreviewLaws
