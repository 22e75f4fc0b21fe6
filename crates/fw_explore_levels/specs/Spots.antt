-- The places of one length as they are kept: their bytes one after the other, and what finds a place by its bytes.
use Rattle.std.specs.Prelude.{ℕ, ◌≡◌, ◌≢◌, ◌+◌, ◌-◌, ◌<◌, ◌≤◌, List, length, map, slice_index_or, slice_index, slice_range, bit_and}
use Rattle.std.specs.Hash.FoldHasher.{initial, write, finish}
use Rattle.fw_explore_levels.specs.declared.spot.Spot.{Spot}

-- ---- what callers see

-- a place: its key, by how many schedules it is reached, and the number of the step that led to it first
pub record Spotted : Type 0 where
  pub key : List ℕ
  pub ways : ℕ
  pub step : ℕ

abbrev pub key_in : List ℕ → Spot → List ℕ
key_in bytes s = slice_range bytes s.at (s.at + s.size)

abbrev pub spotted_in : List ℕ → Spot → Spotted
spotted_in bytes s = record { key = key_in bytes s; ways = s.ways; step = s.step }

abbrev pub spotted : List ℕ → List Spot → List Spotted
spotted bytes spots = map (spotted_in bytes) spots

-- ---- how they are found

-- equal keys have equal ones
unfoldable pub hash_of : List ℕ → ℕ
hash_of key = finish (write initial key)

-- the bucket of a hash, of so many
abbrev pub bucket_of : ℕ → ℕ → ℕ
bucket_of buckets hash = bit_and hash (buckets - 1)

-- the k-th spot: between it and the one that it names (from 1, or 0 for none) there is none of its bucket
pub record IsSpot (bytes : List ℕ) (buckets : ℕ) (spots : List Spot) (k : ℕ) (s : Spot) : Type 0 where
  pub within : s.at + s.size ≤ length bytes
  pub hash : s.hash ≡ hash_of (key_in bytes s)
  pub earlier : s.link ≤ k
  pub same : (d : Spot) → 0 < s.link → bucket_of buckets (slice_index_or spots (s.link - 1) d).hash ≡ bucket_of buckets s.hash
  pub between : (j : ℕ) (d : Spot) → s.link ≤ j → j < k → bucket_of buckets (slice_index_or spots j d).hash ≢ bucket_of buckets s.hash

-- a bucket's number names its last spot (from 1, or 0 for none)
pub record IsBucket (buckets : ℕ) (spots : List Spot) (b head : ℕ) : Type 0 where
  pub earlier : head ≤ length spots
  pub same : (d : Spot) → 0 < head → bucket_of buckets (slice_index_or spots (head - 1) d).hash ≡ b
  pub later : (j : ℕ) (d : Spot) → head ≤ j → j < length spots → bucket_of buckets (slice_index_or spots j d).hash ≢ b

pub record AreLinked (bytes : List ℕ) (spots : List Spot) (heads : List ℕ) : Type 0 where
  pub some : 0 < length heads
  pub each : (k : ℕ) (d : Spot) → k < length spots → IsSpot bytes (length heads) spots k (slice_index_or spots k d)
  pub buckets : (b : ℕ) → b < length heads → IsBucket (length heads) spots b (slice_index heads b)
