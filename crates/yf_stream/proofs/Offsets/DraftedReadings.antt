-- Readings that are made of drafted lists.
use Rattle.std.proofs.Common.{◌≡◌, ◌∙◌, ℕ, List, Ok, sym, subst}
use Rattle.yf_events.specs.declared.lists.Lists.{Lists}
use Rattle.yf_stream.specs.StreamReader.{ReadsStream, TheReading}

pub read_built : (t : List ℕ) {lists draft : Lists} (r : Lists) → r ≡ lists → lists ≡ draft → TheReading t draft → ReadsStream t (Ok r)
read_built t r b e m = subst (λ z. TheReading t z) (sym (b ∙ e)) m
