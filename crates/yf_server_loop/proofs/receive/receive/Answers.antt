use Rattle.std.proofs.Common.{◌≡◌, ◌∙◌, ◌<◌, ◌≤◌, ◌++◌, List, ℕ, inl, inr, length, rules, subst, take}
use Rattle.std.proofs.KnownBytes.{Consumes-trans}
use Rattle.yf_server_loop.specs.Received.{BeginsWithNone, NeverBegins}
use Rattle.yf_server_loop.specs.declared.receive.TheConstants.{CHUNK, MESSAGE_LIMIT}
use Rattle.yf_server_loop.proofs.ReceiveLemmas.{reads_more, waits_more}
use Rattle.yf_server_loop.proofs.receive.receive.Goals as goal

pub returns-in-Err-clause-ended : goal.returns-in-Err-clause-ended
returns-in-Err-clause-ended g c =
    (inl (subst (λ (b : List ℕ). NeverBegins b) c.as_slice.ensures.value c.in-Err.ensures.refused), c.reads.invariant.works)

pub returns-then-len-gt-MESSAGE_LIMIT-clause-ended :
    goal.returns-then-len-gt-MESSAGE_LIMIT-clause-ended
returns-then-len-gt-MESSAGE_LIMIT-clause-ended g c =
    let found = rw c.in-Ok-None.field-0-is at c.in-Ok-None.ensures.found in
    let none = subst (λ (b : List ℕ). BeginsWithNone b) c.as_slice.ensures.value found in
    let long : MESSAGE_LIMIT < length c.reads.inbox.items = search rules in
    (inr (long, none), c.reads.invariant.works)

pub returns-then-count-eq0-clause-ended : goal.returns-then-count-eq0-clause-ended
returns-then-count-eq0-clause-ended g c =
    let found = rw c.in-Ok-None.field-0-is at c.in-Ok-None.ensures.found in
    let none = subst (λ (b : List ℕ). BeginsWithNone b) c.as_slice.ensures.value found in
    let room : 0 < length c.read_watched.new.buffer = search rules in
    (c.in-Ok.ensures.bytes.1 c.if-count-eq0.true room, none, c.in-Ok.ensures.note ∙ c.reads.invariant.works)

pub returns-then-is_err-clause-grows : goal.returns-then-is_err-clause-grows
returns-then-is_err-clause-grows g c = record {
  more = c.reads.invariant.reads.more ++ take c.in-Ok.count c.read_watched.new.buffer;
  consumed = Consumes-trans (g.R.Read.remaining c.args.reader.now) (g.R.Read.remaining c.reads.reader)
      (g.R.Read.remaining c.read_watched.new.self) c.reads.invariant.reads.more
      (take c.in-Ok.count c.read_watched.new.buffer) c.reads.invariant.reads.consumed c.in-Ok.ensures.bytes.0;
}

pub reads-preserved : goal.reads-preserved
reads-preserved g c =
    let found = rw c.in-Ok-None.field-0-is at c.in-Ok-None.ensures.found in
    let none = subst (λ (b : List ℕ). BeginsWithNone b) c.as_slice.ensures.value found in
    let last = take c.in-Ok.count c.read_watched.new.buffer in
    let added : c.extend_from_slice.new.self.items ≡ c.reads.inbox.items ++ take c.in-Ok.count c.read_watched.new.buffer = search rules in
    let few : length (take c.in-Ok.count c.read_watched.new.buffer) ≤ CHUNK = search rules in
    record {
      reads = reads_more (g.R.Read.remaining c.args.reader.now) (g.R.Read.remaining c.reads.reader)
          (g.R.Read.remaining c.read_watched.new.self) c.args.inbox.now.items c.reads.inbox.items
          c.extend_from_slice.new.self.items last c.reads.invariant.reads c.in-Ok.ensures.bytes.0 added;
      waits = waits_more c.args.inbox.now.items c.reads.inbox.items c.extend_from_slice.new.self.items last added few none;
      works = c.in-Ok.ensures.note ∙ c.reads.invariant.works;
    }
