mod GuardLaws
mod LineLaws
