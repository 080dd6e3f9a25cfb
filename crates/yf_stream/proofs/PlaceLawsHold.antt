-- The laws of the offsets of a reading's parts hold.
use Rattle.yf_events.proofs.TreesExist.{trees_well_placed}
use Rattle.yf_stream.proofs.PlaceLaws.{CommentsOfReadingsAscendStrictly, CommentsOfReadingsHaveSigns, ReadingsAreWellPlaced}
use Rattle.yf_stream.proofs.Offsets.ReadingOrder.{ascend_strictly, comments_at, reading_ascends}

pub comments_of_readings_ascend_strictly : CommentsOfReadingsAscendStrictly
comments_of_readings_ascend_strictly t r a = ascend_strictly r.comments (reading_ascends a)

pub comments_of_readings_have_signs : CommentsOfReadingsHaveSigns
comments_of_readings_have_signs t r a k d l = (comments_at a k d l).sign

pub readings_are_well_placed : ReadingsAreWellPlaced
readings_are_well_placed t r a = trees_well_placed r a.trees a.of_reading
