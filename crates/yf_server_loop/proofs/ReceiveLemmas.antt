-- The bytes that are read before a message is found.
use Rattle.std.proofs.Common.{◌≡◌, ◌⊎◌, ◌∙◌, ◌≤◌, ◌++◌, List, [], ℕ, Option, ap, append-nil, append_assoc, inl, inr, length, refl, sym}
use Rattle.std.specs.Io.KnownBytes.{Consumes}
use Rattle.std.proofs.KnownBytes.{Consumes-nil, Consumes-trans}
use Rattle.yf_server_loop.specs.Received.{BeginsWithNone, Reads, Waits}
use Rattle.yf_server_loop.specs.declared.receive.TheConstants.{CHUNK}

-- nothing was read
pub reads_none : (known : Option (List ℕ)) (bytes : List ℕ) → Reads known known bytes bytes
reads_none known bytes = record { more = []; consumed = Consumes-nil known; added = sym (append-nil bytes) }

-- one more read
pub reads_more : (known middle left : Option (List ℕ)) (before between after last : List ℕ)
    → Reads known middle before between → Consumes middle left last → after ≡ between ++ last
    → Reads known left before after
reads_more known middle left before between after last r c added = record {
  more = r.more ++ last;
  consumed = Consumes-trans known middle left r.more last r.consumed c;
  added = added ∙ ap (λ l. l ++ last) r.added ∙ append_assoc before r.more last;
}

pub waits_more : (before between after last : List ℕ) → after ≡ between ++ last → length last ≤ CHUNK
    → BeginsWithNone between → Waits before after
waits_more before between after last added few none = inr (between, last, added, few, none)
