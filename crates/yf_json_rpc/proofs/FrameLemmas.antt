-- The message that bytes begin with: it is found, it is the only one, and errors say that no message can be there.
use Rattle.std.proofs.Common.{◌≡◌, ℕ, ◌+◌, ◌-◌, ◌<◌, ◌≤◌, List, [], ◌∷◌, ◌++◌, length, take, drop, flat_map, map, slice_range, IfErr, IfOk, IfSome, Option, None, Some, Result, Ok, Err, refl, sym, ap, ◌∙◌, subst, arith, length-append, length-take, length-drop, take-append-drop, drop-drop, take_at, drop_at}
use Rattle.std.proofs.lemmas.List.{length-map}
use Rattle.httparse.specs.Grammar.{Field, LineEnd, ReadsSection, crlf, lf, print_end, print_field, print_section}
use Rattle.httparse.specs.Spans.{FindsSection, IsSectionAt, IsSectionOf, SectionOverflows, header_bytes, name_and_value}
use Rattle.httparse.specs.declared.Status.TheVariants.{Complete}
use Rattle.httparse.specs.declared.spans.HeaderSpan.{HeaderSpan}
use Rattle.httparse.proofs.GrammarLemmas.{section_unique, ReadsSection-append}
use Rattle.http1.specs.Fields.{Header, known_fields}
use Rattle.http1.specs.declared.fields.ContentLength.{ContentLength}
use Rattle.http1.specs.declared.fields.ContentLength.TheVariants as Length
use Rattle.yf_json_rpc.specs.declared.frame.Content.{Content}
use Rattle.yf_json_rpc.specs.declared.frame.FrameError.{FrameError}
use Rattle.yf_json_rpc.specs.Frames.{ContentAt, GivesFrame, IsFrame, IsFrameAt, length_field}
use Rattle.yf_json_rpc.specs.Streams.{AreFrames, no_frame, one_frame}

pub known_length : (headers : List Header) → (known_fields headers).content_length ≡ length_field headers
unfolding known_fields
known_length headers = refl

-- the parts of a text after an offset
content_parts : (bytes : List ℕ) (start size : ℕ) → slice_range bytes start (start + size) ++ drop
    (start + size) bytes ≡ drop start bytes
content_parts bytes start size =
    let same : start + size - start ≡ size = omega arith in
    ap (λ n. take n (drop start bytes) ++ drop (start + size) bytes) same
    ∙ ap (λ z. take size (drop start bytes) ++ z) (sym (drop-drop size start bytes))
    ∙ take-append-drop size (drop start bytes)

slice_size : (bytes : List ℕ) (start size : ℕ) → start + size ≤ length bytes
    → length (slice_range bytes start (start + size)) ≡ size
slice_size bytes start size l = omega (
  arith,
  length-take (start + size - start)
      (drop start bytes),
  length-drop start bytes,
)

few_fields : (bytes : List ℕ) (headers : List HeaderSpan) (count : ℕ) (fields : List Field) → length headers ≡ 16
    → map (header_bytes bytes) (take count headers) ≡ map name_and_value fields → length fields ≤ 16
few_fields bytes headers count fields room same =
    let lengths : length (map (header_bytes bytes) (take count headers)) ≡ length (map name_and_value fields) =
    ap length same in
    omega (
      arith,
      lengths,
      length-map (take count headers)
          (header_bytes bytes),
      length-map fields name_and_value,
      length-take count headers,
    )

-- a header section and as much content as it says
pub content_is : (bytes : List ℕ) (headers : List HeaderSpan) (start count size limit : ℕ) (fields : List Field)
    (last : LineEnd) → length headers ≡ 16 → IsSectionAt bytes 0 headers start count fields last
    → length_field (map (header_bytes bytes) (take count headers)) ≡ Length.Value size → size ≤ limit
    → start + size ≤ length bytes → IsFrameAt bytes limit (record { start = start; end = start + size })
content_is bytes headers start count size limit fields last room at n fits l = record {
  order = omega arith;
  bound = l;
  message = record {
    fields = fields;
    last = last;
    few = few_fields bytes headers count fields room at.fields_are;
    reads = subst (λ z. ReadsSection bytes fields last z) (sym (content_parts bytes start size)) at.reads;
    size = ap length_field (sym at.fields_are) ∙ n ∙ ap Length.Value (sym (slice_size bytes start size l));
    short = subst (λ k. k ≤ limit) (sym (slice_size bytes start size l)) fits;
  };
}

-- the content at the end of the header section
pub content_found : (bytes body rest : List ℕ) (start size limit : ℕ) (r : Result (Option Content) FrameError)
    → start ≤ length bytes → drop start bytes ≡ body ++ rest → size ≡ length body → length body ≤ limit
    → ContentAt (length bytes) start size limit r → GivesFrame bytes body rest r
content_found bytes body rest start size limit (Ok (Some content)) l parts n fits at =
    let a : slice_range bytes content.start content.end ≡ take size (drop start bytes) =
    (let same : content.end - content.start ≡ size = omega (arith, at.0, at.1) in
    ap (λ k. take k (drop content.start bytes)) same ∙ ap (λ k. take size (drop k bytes)) at.0) in
    let b : drop content.end bytes ≡ drop size (drop start bytes) = ap (λ k. drop k bytes) at.1
    ∙ sym (drop-drop size start bytes) in (
      a ∙ ap (take size) parts ∙ take_at body rest size (sym n),
      b ∙ ap (drop size) parts
          ∙ drop_at body rest size (sym n),
    )
content_found bytes body rest start size limit (Ok None) l parts n fits at =
    let long : length (drop start bytes) ≡ length (body ++ rest) = ap length parts in
    absurd (omega (arith, at.0, length-drop start bytes, length-append body rest))
content_found bytes body rest start size limit (Err e) l parts n fits at = absurd (omega (arith, at))

-- no message is there, whatever bytes follow
pub never_section : (bytes : List ℕ) (limit : ℕ) → SectionOverflows 16 bytes → (more body rest : List ℕ)
    → IsFrame (bytes ++ more) limit body rest → ⊥
never_section bytes limit over more body rest f = let many : 16 < length f.fields =
    over more f.fields f.last (body ++ rest) f.reads in omega (arith, f.few)

pub never_length : (bytes : List ℕ) (limit : ℕ) (fields : List Field) (last : LineEnd) (after : List ℕ)
    → ReadsSection bytes fields last after → ((n : ℕ) → n ≤ limit
    → length_field (map name_and_value fields) ≡ Length.Value n → ⊥) → (more body rest : List ℕ)
    → IsFrame (bytes ++ more) limit body rest → ⊥
never_length bytes limit fields last after reads bad more body rest f =
    let same = section_unique (bytes ++ more) fields f.fields last f.last (after ++ more) (body ++ rest)
    (ReadsSection-append bytes fields last after more reads) f.reads in
    bad (length body) f.short (ap (λ z. length_field (map name_and_value z)) same.0 ∙ f.size)

-- the result of `read_frame` after the header section
pub complete_from : (bytes : List ℕ) (headers : List HeaderSpan) (start count size limit : ℕ)
    (r : Result (Option Content) FrameError) → length headers ≡ 16 → IsSectionOf bytes 0 headers (start, count)
    → Length.Value size ≡ length_field (map (header_bytes bytes) (take count headers))
    → ContentAt (length bytes) start size limit r → IfOk r (λ found. IfSome found (IsFrameAt bytes limit))
complete_from bytes headers start count size limit (Ok (Some content)) room section n at =
    let bound : start + size ≤ length bytes = omega (arith, at.1, at.2) in
    let is : IsFrameAt bytes limit (record { start = start; end = start + size }) =
    content_is bytes headers start count size limit section.0 section.1 room section.2 (sym n) at.3 bound in
    subst (λ s. IsFrameAt bytes limit (record { start = s; end = content.end })) (sym at.0)
    (subst (λ k. IsFrameAt bytes limit (record { start = start; end = k })) (sym at.1) is)
complete_from bytes headers start count size limit (Ok None) room section n at = tt
complete_from bytes headers start count size limit (Err e) room section n at = tt

pub found_from : (bytes : List ℕ) (headers : List HeaderSpan) (start count size limit room : ℕ)
    (r : Result (Option Content) FrameError) → room ≡ 16 → start ≤ length bytes
    → FindsSection bytes 0 room headers (Ok (Complete (start, count)))
    → Length.Value size ≡ length_field (map (header_bytes bytes) (take count headers))
    → ContentAt (length bytes) start size limit r → (body rest : List ℕ) → IsFrame bytes limit body rest
    → GivesFrame bytes body rest r
found_from bytes headers start count size limit room r is l finds n at body rest f =
    let section : IsSectionAt bytes 0 headers start count f.fields f.last =
    finds f.fields f.last (body ++ rest) f.reads (omega (arith, f.few)) in
    let same = section_unique bytes f.fields f.fields f.last f.last (drop start bytes)
    (body ++ rest) section.reads f.reads in
    let sizes : Length.Value size ≡ Length.Value (length body) = n ∙ ap length_field section.fields_are ∙ f.size in
    let size_is : size ≡ length body = cc in
    content_found bytes body rest start size limit r l same.2 size_is f.short at

-- the fields give no length that is allowed
pub refused_from : (bytes : List ℕ) (headers : List HeaderSpan) (start count limit : ℕ) (n : ContentLength)
    → IsSectionOf bytes 0 headers (start, count) → n ≡ length_field (map (header_bytes bytes) (take count headers))
    → ((k : ℕ) → k ≤ limit → n ≡ Length.Value k → ⊥) → (more body rest : List ℕ)
    → IsFrame (bytes ++ more) limit body rest → ⊥
refused_from bytes headers start count limit n section is bad more body rest f =
    never_length bytes limit section.0 section.1 (drop start bytes) section.2.reads (λ k short e. bad k short (is
    ∙ ap length_field section.2.fields_are ∙ e)) more body rest f

pub refused_long : (bytes : List ℕ) (headers : List HeaderSpan) (start count size limit : ℕ)
    (r : Result (Option Content) FrameError) → IsSectionOf bytes 0 headers (start, count)
    → Length.Value size ≡ length_field (map (header_bytes bytes) (take count headers))
    → ContentAt (length bytes) start size limit r → IfErr r (λ _. (more body rest : List ℕ)
    → IsFrame (bytes ++ more) limit body rest → ⊥)
refused_long bytes headers start count size limit (Ok o) section n at = tt
refused_long bytes headers start count size limit (Err e) section n at =
    refused_from bytes headers start count limit (Length.Value size) section n (λ k short same. let equal : size ≡ k =
    cc in omega (arith, at))

-- one message at the front
pub one_body : (bytes : List ℕ) (limit : ℕ) (a b r q : List ℕ) → IsFrame bytes limit a r → IsFrame bytes limit b q
    → (a ≡ b) × (r ≡ q)
one_body bytes limit a b r q f g =
    let same = section_unique bytes f.fields g.fields f.last g.last (a ++ r) (b ++ q) f.reads g.reads in
    let sizes : Length.Value (length a) ≡ Length.Value (length b) = sym f.size
    ∙ ap (λ z. length_field (map name_and_value z)) same.0 ∙ g.size in
    let size : length a ≡ length b = cc in (
      sym (take_at a r (length a) refl) ∙ ap (take (length a)) same.2 ∙ take_at b q (length a) (sym size),
      sym (drop_at a r (length a) refl) ∙ ap (drop (length a)) same.2 ∙ drop_at b q (length a) (sym size),
    )

no_section : (fields : List Field) (last : LineEnd) (rest : List ℕ) → [] ≡ print_section fields last ++ rest → ⊥
no_section fields crlf rest e =
    let n : 0 ≡ length (print_section fields crlf ++ rest) = ap length e in
    omega (
      arith,
      n,
      length-append (print_section fields crlf) rest,
      length-append (flat_map print_field fields)
          (print_end crlf),
    )
no_section fields lf rest e =
    let n : 0 ≡ length (print_section fields lf ++ rest) = ap length e in
    omega (
      arith,
      n,
      length-append (print_section fields lf) rest,
      length-append (flat_map print_field fields)
          (print_end lf),
    )

some_frame : (limit : ℕ) (body rest : List ℕ) → IsFrame [] limit body rest → ⊥
some_frame limit body rest f = no_section f.fields f.last (body ++ rest) f.reads.1

pub frames_are_one : (limit : ℕ) (bytes : List ℕ) (some others : List (List ℕ)) → AreFrames limit bytes some
    → AreFrames limit bytes others → some ≡ others
frames_are_one limit bytes some others no_frame no_frame = refl
frames_are_one limit bytes some others no_frame (one_frame f rest) = absurd (some_frame limit _ _ f)
frames_are_one limit bytes some others (one_frame f rest) no_frame = absurd (some_frame limit _ _ f)
frames_are_one limit bytes some others (one_frame {body = a} {rest = r} {bodies = xs} f more)
    (one_frame {body = b} {rest = q} {bodies = ys} g others_more) =
    let same = one_body bytes limit a b r q f g in
    let later : xs ≡ ys = frames_are_one limit r xs ys more
    (subst (λ z. AreFrames limit z ys) (sym same.1) others_more) in
    ap (λ z. z ∷ xs) same.0 ∙ ap (λ z. b ∷ z) later
