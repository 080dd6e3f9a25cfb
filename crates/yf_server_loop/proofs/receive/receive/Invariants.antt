-- The bytes that were read were added, each time because there was no whole message, and no read has failed.
use Rattle.std.proofs.Common.{◌≡◌, ◌+◌, ◌-◌, vec_len}
use Rattle.yf_server_loop.specs.Received.{Reads, Waits}
use Rattle.yf_server_loop.specs.declared.receive.TheConstants.{MESSAGE_LIMIT}
use Rattle.yf_server_loop.proofs.receive.receive.Given as goal

abbrev pub invariant-reads : goal.invariant-reads
invariant-reads g l = record {
  reads : Reads (g.R.Read.remaining l.fn.reader) (g.R.Read.remaining l.reader) l.fn.inbox.items l.inbox.items;
  waits : Waits l.fn.inbox.items l.inbox.items;
  works : g.R.Source.has_failed l.reader ≡ g.R.Source.has_failed l.fn.reader;
}

abbrev pub decreases-reads : goal.decreases-reads
decreases-reads g l = MESSAGE_LIMIT + 1 - vec_len l.inbox
