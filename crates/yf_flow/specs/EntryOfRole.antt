-- The entry that a node begins in its role: none for a value; otherwise one at the offset, without a colon yet, with
-- its note.
use Rattle.std.specs.Prelude.{◌≡◌, ◌≢◌, ℕ, List, Option, Some, None}
use Rattle.yf_chars.specs.Text.{code}
use Rattle.yf_events.specs.declared.event.Entry.{Entry}
use Rattle.yf_flow.specs.declared.frame.Role.{Role}
use Rattle.yf_flow.specs.declared.frame.Role.TheVariants.{Item, Key, Value}
use Rattle.yf_flow.specs.StackMeaning.{EntryNoted}

abbrev pub EntryBegun : List ℕ → ℕ → Role → Option Entry → Type 0
EntryBegun t s Value entry = entry ≡ None
EntryBegun t s Item entry = (e : Entry) × (entry ≡ Some e) × (code t s ≢ 10 → EntryNoted t s None e)
EntryBegun t s Key entry = (e : Entry) × (entry ≡ Some e) × (code t s ≢ 10 → EntryNoted t s None e)
