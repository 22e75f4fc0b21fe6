-- Laws of what finds a place by its bytes.
use Rattle.std.proofs.Common.{ℕ, ◌≡◌, ◌≢◌, ◌+◌, ◌-◌, ◌<◌, ◌≤◌, List, [], length, get_or, take, drop, set, replicate, sym, ap, subst, ◌∙◌, inl, inr, arith}
use Rattle.std.specs.List.{All}
use Rattle.std.proofs.lemmas.Bool.{cases_lt, cases_eq}
use Rattle.std.proofs.lemmas.List.{length-set, length-replicate, length-map, get_or-replicate, get_or_default, get_or-set_same, get_or-set_other, get_or-map, map-set}
use Rattle.fw_explore_levels.specs.declared.spot.Spot.{Spot}
use Rattle.fw_explore_levels.specs.Spots.{Spotted, key_in, spotted_in, spotted, hash_of, bucket_of, IsSpot, IsBucket, AreLinked}

-- what a list has past its end
no_spot : Spot
no_spot = record { at = 0; size = 0; hash = 0; link = 0; step = 0; ways = 0 }

-- ---- no place

pub links_none : (buckets : ℕ) → 0 < buckets → AreLinked [] [] (replicate buckets 0)
links_none buckets some = record {
  some = subst (λ n. 0 < n) (sym (length-replicate buckets 0)) some;
  each = λ k d h. absurd (omega (arith, h));
  buckets = λ b h.
      let empty : 0 ≡ get_or (replicate buckets 0) b 0 = sym (get_or-replicate buckets b 0 0 (subst (λ n. b < n) (length-replicate buckets 0) h)) in
      subst (IsBucket (length (replicate buckets 0)) [] b) empty (record { earlier = omega arith; same = λ d l. absurd (omega (arith, l)); later = λ j d l i. absurd (omega (arith, i)) });
}

-- two spots of one place that may differ in their counts and steps
record IsAlike (a b : Spot) : Type 0 where
  at : a.at ≡ b.at
  size : a.size ≡ b.size
  hash : a.hash ≡ b.hash
  link : a.link ≡ b.link

-- their keys are the same
key_alike : (bytes : List ℕ) (a b : Spot) → IsAlike a b → key_in bytes a ≡ key_in bytes b
key_alike bytes a b h = ap (λ i. take (i + a.size - i) (drop i bytes)) h.at ∙ ap (λ n. take (b.at + n - b.at) (drop b.at bytes)) h.size

-- ---- a place is sought

-- From a spot on (from 1, or 0 for none) a bucket's spots are still to be looked at: the others have another key.
pub record IsSought (bytes : List ℕ) (buckets : ℕ) (spots : List Spot) (key : List ℕ) (head : ℕ) : Type 0 where
  pub earlier : head ≤ length spots
  pub same : (d : Spot) → 0 < head → bucket_of buckets (get_or spots (head - 1) d).hash ≡ bucket_of buckets (hash_of key)
  pub others : (j : ℕ) (d : Spot) → head ≤ j → j < length spots → key_in bytes (get_or spots j d) ≢ key

module _ (bytes : List ℕ) (spots : List Spot) (heads : List ℕ) (links : AreLinked bytes spots heads) where
  -- a spot of another bucket has another key
  other_bucket : (key : List ℕ) (j : ℕ) (d : Spot) → j < length spots → bucket_of (length heads) (get_or spots j d).hash ≢ bucket_of (length heads) (hash_of key)
      → key_in bytes (get_or spots j d) ≢ key
  other_bucket key j d h n e = n (ap (bucket_of (length heads)) ((links.each j d h).hash ∙ ap hash_of e))

  -- and one of another hash
  pub other_hash : (key : List ℕ) (j : ℕ) (d : Spot) → j < length spots → (get_or spots j d).hash ≢ hash_of key → key_in bytes (get_or spots j d) ≢ key
  other_hash key j d h n e = n ((links.each j d h).hash ∙ ap hash_of e)

  pub sought_begins : (key : List ℕ) → bucket_of (length heads) (hash_of key) < length heads → IsSought bytes (length heads) spots key (get_or heads (bucket_of (length heads) (hash_of key)) 0)
  sought_begins key h =
      let b = links.buckets (bucket_of (length heads) (hash_of key)) h in
      record { earlier = b.earlier; same = b.same; others = λ j d l i. other_bucket key j d i (b.later j d l i) }

  pub sought_next : (key : List ℕ) (head : ℕ) (s : Spot) → IsSought bytes (length heads) spots key head → 0 < head → s ≡ get_or spots (head - 1) s → key_in bytes s ≢ key
      → IsSought bytes (length heads) spots key s.link
  sought_next key head s sought some is other =
      let inside : head - 1 < length spots = omega (arith, sought.earlier, some) in
      let spot = subst (IsSpot bytes (length heads) spots (head - 1)) (sym is) (links.each (head - 1) s inside) in
      let bucket = ap (λ x. bucket_of (length heads) x.hash) is ∙ sought.same s some in
      record {
        earlier = omega (arith, spot.earlier, inside);
        same = λ d l. spot.same d l ∙ bucket;
        others = λ j d l i. elim (cases_lt j (head - 1)) [
          | inl less ↦ other_bucket key j d i (λ e. spot.between j d l less (e ∙ sym bucket))
          | inr ge ↦ elim (cases_eq j (head - 1)) [
            | inl here ↦ λ e. other (ap (key_in bytes) (is ∙ get_or_default spots (head - 1) s d inside ∙ ap (λ k. get_or spots k d) (sym here)) ∙ e)
            | inr n ↦ sought.others j d (omega (arith, ge, n)) i
          ]
        ];
      }

  pub sought_none : (key : List ℕ) → IsSought bytes (length heads) spots key 0 → All (λ x. x.key ≢ key) (spotted bytes spots)
  sought_none key sought k d h e =
      let inside : k < length spots = subst (λ n. k < n) (length-map spots (spotted_in bytes)) h in
      absurd (sought.others k no_spot (omega arith) inside (sym (ap (λ x. x.key) (get_or-map (spotted_in bytes) spots k no_spot d inside)) ∙ e))

  -- ---- only its count changes

  module _ (k w : ℕ) (s : Spot) (h : k < length spots) (is : s ≡ get_or spots k s) where
    -- every spot stands where it stood
    alike : (j : ℕ) (d : Spot) → j < length spots → IsAlike (get_or (set spots k (record s { ways = w })) j d) (get_or spots j d)
    alike j d l =
        let v : Spot = record s { ways = w } in
        elim (cases_eq j k) [
          | inl e ↦
              let there : get_or (set spots k v) j d ≡ v = ap (λ i. get_or (set spots k v) i d) e ∙ get_or-set_same spots k v d h in
              let here : s ≡ get_or spots j d = is ∙ get_or_default spots k s d h ∙ sym (ap (λ i. get_or spots i d) e) in
              record {
                at = ap (λ x. x.at) there ∙ ap (λ x. x.at) here;
                size = ap (λ x. x.size) there ∙ ap (λ x. x.size) here;
                hash = ap (λ x. x.hash) there
                    ∙ ap (λ x. x.hash) here;
                link = ap (λ x. x.link) there ∙ ap (λ x. x.link) here;
              }
          | inr n ↦
              let other = get_or-set_other spots k j v d n in
              record { at = ap (λ x. x.at) other; size = ap (λ x. x.size) other; hash = ap (λ x. x.hash) other; link = ap (λ x. x.link) other }
        ]

    pub links_count : AreLinked bytes (set spots k (record s { ways = w })) heads
    links_count =
        let v : Spot = record s { ways = w } in
        let size = length-set spots k v in
        record {
          some = links.some;
          each = λ j d l.
              let inside : j < length spots = omega (arith, l, size) in
              let a = alike j d inside in
              let old = links.each j d inside in
              record {
                within = omega (arith, old.within, a.at, a.size);
                hash = a.hash ∙ old.hash ∙ ap hash_of (sym (key_alike bytes (get_or (set spots k v) j d) (get_or spots j d) a));
                earlier = omega (arith, old.earlier, a.link);
                same = λ e m.
                    let one : (get_or (set spots k v) j d).link - 1 ≡ (get_or spots j d).link - 1 = ap (λ n. n - 1) a.link in
                    ap (λ i. bucket_of (length heads) (get_or (set spots k v) i e).hash) one
                    ∙ ap (bucket_of (length heads)) (alike ((get_or spots j d).link - 1) e (omega (arith, m, a.link, old.earlier, inside))).hash
                    ∙ old.same e (omega (arith, m, a.link)) ∙ sym (ap (bucket_of (length heads)) a.hash);
                between = λ i e m n q.
                    old.between i e (omega (arith, m, a.link)) n
                    (sym (ap (bucket_of (length heads)) (alike i e (omega (arith, n, inside))).hash) ∙ q ∙ ap (bucket_of (length heads)) a.hash);
              };
          buckets = λ b l. let old = links.buckets b l in record {
            earlier = omega (arith, old.earlier, size);
            same = λ d m. ap (bucket_of (length heads)) (alike (get_or heads b 0 - 1) d (omega (arith, m, old.earlier))).hash ∙ old.same d m;
            later = λ j d m i e. old.later j d m (omega (arith, i, size)) (sym (ap (bucket_of (length heads)) (alike j d (omega (arith, i, size))).hash) ∙ e);
          };
        }

-- ---- what is read of a spot

pub spotted_at : (bytes : List ℕ) (spots : List Spot) (place : ℕ) (s : Spot) (v : List Spotted) (d : Spotted) → place < length v → s ≡ get_or spots place s → spotted bytes spots ≡ v
    → spotted_in bytes s ≡ get_or v place d
spotted_at bytes spots place s v d h is e =
    let inside : place < length spots = omega (arith, h, ap length e, length-map spots (spotted_in bytes)) in
    ap (spotted_in bytes) is ∙ sym (get_or-map (spotted_in bytes) spots place s d inside) ∙ ap (λ x. get_or x place d) e

pub spot_at : (bytes : List ℕ) (spots : List Spot) (heads : List ℕ) (place : ℕ) (s : Spot) → AreLinked bytes spots heads → place < length spots → s ≡ get_or spots place s
    → IsSpot bytes (length heads) spots place s
spot_at bytes spots heads place s links h is = subst (IsSpot bytes (length heads) spots place) (sym is) (links.each place s h)

pub spotted_count : (bytes : List ℕ) (spots : List Spot) (place w : ℕ) (s : Spot) (v : List Spotted) (d : Spotted) → place < length v → s ≡ get_or spots place s → spotted bytes spots ≡ v
    → spotted bytes (set spots place (record s { ways = w })) ≡ set v place (record (get_or v place d) { ways = w })
spotted_count bytes spots place w s v d h is e =
    map-set (spotted_in bytes) spots place (record s { ways = w })
    ∙ ap (λ x. set (spotted bytes spots) place (record x { ways = w })) (spotted_at bytes spots place s v d h is e)
    ∙ ap (λ x. set x place (record (get_or v place d) { ways = w })) e
