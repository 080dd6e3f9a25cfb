-- Only documents with the URI are removed, and each time there is one less.
use Rattle.std.proofs.Common.{◌≡◌, ℕ, List, length, false}
use Rattle.std.specs.Prelude.{bytes_eq}
use Rattle.yf_server.specs.Documents.{find}
use Rattle.yf_server.proofs.documents.withdraw.Given as goal

abbrev pub invariant-places : goal.invariant-places
invariant-places l = (other : List ℕ) → bytes_eq other l.uri ≡ false
    → find other l.documents.items ≡ find other l.fn.documents.items

abbrev pub decreases-places : goal.decreases-places
decreases-places l = length l.documents.items
