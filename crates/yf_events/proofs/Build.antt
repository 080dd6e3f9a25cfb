-- From the pass over the events to the reading.
use Rattle.std.proofs.Common.{ℕ, ◌≡◌, Bool, true, false, [], sym, ◌∙◌}
use Rattle.std.proofs.lemmas.Bool.{false≢true}
use Rattle.yf_events.specs.Nested.{IsStream}
use Rattle.yf_events.specs.Nesting.{run}
use Rattle.yf_events.specs.Reading.{events_of}
use Rattle.yf_events.specs.declared.lists.Lists.{Lists}
use Rattle.yf_events.specs.declared.nesting.NestingState.TheVariants.{Stream}
use Rattle.yf_events.proofs.Nests.{complete}
use Rattle.yf_events.proofs.Rests.{is_stream}

pub is_nested : (limit : ℕ) (r : Lists) (b : Bool) → b ≡ run limit Stream [] (events_of r) → b ≡ true → IsStream limit (events_of r)
is_nested limit r b h t = is_stream limit (events_of r) (sym h ∙ t)

pub not_nested : (limit : ℕ) (r : Lists) (b : Bool) → b ≡ run limit Stream [] (events_of r) → b ≡ false → IsStream limit (events_of r) → ⊥
not_nested limit r b h f s = false≢true (sym f ∙ h ∙ complete s)
