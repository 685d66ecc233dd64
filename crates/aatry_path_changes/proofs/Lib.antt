mod LawLemmas
mod StepLemmas
