pub mod MergedScenes
