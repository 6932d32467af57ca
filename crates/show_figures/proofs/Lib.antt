mod CountLemmas
mod FigureLemmas
mod WeightLemmas
