pub mod FilledFacts
pub mod StateLaws
pub mod SameSpans
pub mod ListSteps
pub mod OneMagazine
pub mod MagazineSteps
pub mod PushesSteps
