-- From the mask of 16 lanes to the bytes that pass a test.
use Rattle.std.proofs.Common.{◌≡◌, ℕ, ◌+◌, ◌%◌, ◌^◌, ◌≤◌, Bool, true, not, List, map, length, get_or, Fits, w8, sym, ap, ◌∙◌, arith}
use Rattle.std.proofs.lemmas.Bool.{agree_below, agree_below_at, not-true, not-false}
use Rattle.std.proofs.lemmas.List.{length-map}
use Rattle.std.proofs.lemmas.Simd.{map-map, mask_l-mod, length-chunk, first_set_mask_l, run_in_chunk_le, run_in_chunk_fails, run_in_chunk_stops}
use Rattle.std.specs.List.{prefix_len}
use lib.Lanes.{chunk, mask_l, top}
use Rattle.yf_chars.specs.Lanes.{lanes_before, LaneRun}

-- f computes each lane of z from its byte, and the highest bit of a lane is set if and only if the byte doesn't pass
-- the test
module _ (test : ℕ → Bool) (d : List ℕ) (i r : ℕ) (z : List ℕ) (f : ℕ → ℕ) (room : i + 16 ≤ length d) (fits : (k : ℕ) → Fits w8 (get_or d k 0))
    (found : r ≡ lanes_before (mask_l (map (top 7) z) % 2 ^ 64)) (lanes : z ≡ map f (chunk i 16 d))
    (all : agree_below (λ x. top 7 (f x)) (λ x. not (test x)) 256 ≡ true) where
  abbrev fails : ℕ → Bool
  fails x = top 7 (f x)

  long : length (chunk i 16 d) ≡ 16
  long = length-chunk i 16 d room

  mask : mask_l (map (top 7) z) % 2 ^ 64 ≡ mask_l (map fails (chunk i 16 d))
  mask =
      ap (λ l. mask_l l % 2 ^ 64) (ap (map (top 7)) lanes ∙ map-map (top 7) f (chunk i 16 d))
      ∙ mask_l-mod (map fails (chunk i 16 d)) 64 (omega (arith, length-map (chunk i 16 d) fails, long))

  counted : r ≡ prefix_len (λ x. not (fails x)) (chunk i 16 d)
  counted = found ∙ ap lanes_before mask ∙ first_set_mask_l fails (chunk i 16 d) 16 long (omega arith)

  told : (k : ℕ) → fails (get_or d k 0) ≡ not (test (get_or d k 0))
  told k = agree_below_at fails (λ x. not (test x)) 256 (get_or d k 0) all (fits k).fits

  pub lane_run : LaneRun test d i r
  lane_run = record {
    few = run_in_chunk_le fails d i 16 r 0 room counted;
    pass = λ k a b. not-false _ (sym (told k) ∙ run_in_chunk_fails fails d i 16 r 0 room counted k a b);
    stops = λ short. not-true _ (sym (told (i + r)) ∙ run_in_chunk_stops fails d i 16 r 0 room counted short);
  }
