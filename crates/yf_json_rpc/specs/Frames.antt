-- A message: the lines of its header fields, an empty line, and the content, with the number of bytes that
-- `Content-Length` gives.
use Rattle.std.specs.Prelude.{◌≡◌, ℕ, ◌+◌, ◌<◌, ◌≤◌, List, ◌++◌, length, drop, map, slice_range, codes, decimal, Option, None, Some, Result, Ok, Err}
use Rattle.httparse.specs.Grammar.{Field, LineEnd, ReadsSection}
use Rattle.httparse.specs.Spans.{name_and_value}
use Rattle.http1.specs.Fields.{Header, content_length, values_named}
use Rattle.http1.specs.declared.fields.ContentLength.{ContentLength}
use Rattle.http1.specs.declared.fields.ContentLength.TheVariants as Length
use Rattle.yf_json_rpc.specs.declared.frame.Content.{Content}
use Rattle.yf_json_rpc.specs.declared.frame.FrameError.{FrameError}

-- the value of the fields called `Content-Length`, in any case
abbrev pub length_field : List Header → ContentLength
length_field headers = content_length (values_named (codes "content-length") headers)

-- The bytes are a message with this content, and then the rest. The fields are as in HTTP (RFC 9112, section 5), at
-- most sixteen of them.
pub record IsFrame (bytes : List ℕ) (limit : ℕ) (body rest : List ℕ) : Type 0 where
  pub fields : List Field
  pub last : LineEnd
  pub few : length fields ≤ 16
  pub reads : ReadsSection bytes fields last (body ++ rest)
  pub size : length_field (map name_and_value fields) ≡ Length.Value (length body)
  pub short : length body ≤ limit

-- the content of the message that the bytes begin with
pub record IsFrameAt (bytes : List ℕ) (limit : ℕ) (content : Content) : Type 0 where
  pub order : content.start ≤ content.end
  pub bound : content.end ≤ length bytes
  pub message : IsFrame bytes limit (slice_range bytes content.start content.end) (drop content.end bytes)

-- that content and that rest are found
abbrev pub GivesFrame : List ℕ → List ℕ → List ℕ → Result (Option Content) FrameError → Type 0
GivesFrame bytes body rest (Ok (Some content)) = (slice_range bytes content.start content.end ≡ body)
    × (drop content.end bytes ≡ rest)
GivesFrame bytes body rest (Ok None) = ⊥
GivesFrame bytes body rest (Err e) = ⊥

-- the content of a known size that begins at an offset, if it fits the limit and is complete
abbrev pub ContentAt : ℕ → ℕ → ℕ → ℕ → Result (Option Content) FrameError → Type 0
ContentAt all start size limit (Ok (Some content)) =
    (content.start ≡ start) × (content.end ≡ start + size) × (content.end ≤ all) × (size ≤ limit)
ContentAt all start size limit (Ok None) = (all < start + size) × (size ≤ limit)
ContentAt all start size limit (Err e) = limit < size

-- how a message is written
abbrev pub frame : List ℕ → List ℕ
frame body = codes "Content-Length: " ++ decimal (length body) ++ codes "\r\n\r\n" ++ body
