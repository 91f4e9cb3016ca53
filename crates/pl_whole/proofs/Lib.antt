mod ObjectLemmas
mod WholeLemmas
