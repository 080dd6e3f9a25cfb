-- The laws of streams and of readings hold.
use Rattle.std.proofs.Common.{◌≡◌, ◌<◌, [], refl, sym, ap, ◌∙◌, subst, arith}
use Rattle.std.specs.List.{Contains}
use Rattle.yf_lines.specs.declared.fault.Fault.{Fault}
use Rattle.yf_lines.specs.declared.fault.Fault.TheVariants.{Memory}
use Rattle.yf_stream.specs.Laws.{StreamsAreOne, DerivedStreamsAreShapes, ReadingsAreOne, ReadingsAreTheReading, ReadTextsHaveNoFault, CommentsOfReadingsAscend, CommentsOfReadingsAreWithin}
use Rattle.yf_stream.specs.StreamReader.{NoStream, StreamFault, for_memory, no_stream, too_deep, breached}
use Rattle.yf_stream.specs.WellFormed.{breaches}
use Rattle.yf_stream.specs.declared.breaches.Breach.{Breach}
use Rattle.yf_stream.proofs.Uniqueness.OneReading.{one_reading}
use Rattle.yf_stream.proofs.Uniqueness.OneStream.{one_stream}
use Rattle.yf_stream.proofs.Offsets.ReadingOrder.{comments_at, comments_in_order}

pub streams_are_one : StreamsAreOne
streams_are_one t h g x y u d v f w = one_stream u d v f w

pub derived_streams_are_shapes : DerivedStreamsAreShapes
derived_streams_are_shapes t h x u d v = record { height = h; derived = d; within = v; only = λ g y f w. one_stream u d v f w }

pub readings_are_one : ReadingsAreOne
readings_are_one t r s a b = one_reading b a

pub readings_are_the_reading : ReadingsAreTheReading
readings_are_the_reading t r a = record { reads = a; only = λ s b. one_reading b a }

none_first : {b : Breach} → Contains [] b → ⊥
none_first e = let l : e.0 < 0 = e.1 in omega arith

pub read_texts_have_no_fault : ReadTextsHaveNoFault
read_texts_have_no_fault t r fault a f = go fault f where
  derived : NoStream t → ⊥
  derived n = let x = a.reads.shapes in n x.height a.derived x.derived x.within

  go : (fault : Fault) → StreamFault t fault → fault ≡ Memory
  go fault for_memory = refl
  go fault (no_stream n s) = absurd (derived n)
  go fault (too_deep n l p) = absurd (derived n)
  go fault (breached {x = x} {b = b} s first p e) =
      let y = a.reads.shapes in
      let same : a.derived ≡ x = s.only y.height a.derived y.derived y.within in
      let none : breaches x.documents ≡ [] = ap (λ w. breaches w.documents) (sym same) ∙ a.reads.well_formed in
      absurd (none_first (subst (λ w. Contains w b) none first.among))

pub comments_of_readings_ascend : CommentsOfReadingsAscend
comments_of_readings_ascend t r a = comments_in_order a

pub comments_of_readings_are_within : CommentsOfReadingsAreWithin
comments_of_readings_are_within t r a k d l = (comments_at a k d l).before
