-- Laws of a place more, after the others.
use Rattle.std.proofs.Common.{ℕ, ◌≡◌, ◌+◌, ◌-◌, ◌<◌, ◌≤◌, List, [], ◌∷◌, ◌++◌, length, get_or, take, drop, set, refl, sym, ap, subst, ◌∙◌, inl, inr, arith}
use Rattle.std.proofs.lemmas.Bool.{cases_lt, cases_eq}
use Rattle.std.proofs.lemmas.List.{length-append, length_push, length-set, length-map, length-drop, get_or_append_left, get_or_push, get_or-set_same}
use Rattle.std.proofs.lemmas.List.{get_or-set_other, get_or-map, take-append-le, drop-append-le, drop_at, take_all, map-append, same_lists}
use Rattle.fw_explore_levels.specs.declared.spot.Spot.{Spot}
use Rattle.fw_explore_levels.specs.Spots.{key_in, spotted_in, spotted, hash_of, bucket_of, IsSpot, IsBucket, AreLinked}

-- what a list has past its end
no_spot : Spot
no_spot = record { at = 0; size = 0; hash = 0; link = 0; step = 0; ways = 0 }

-- the bytes of a place stay, if more come after all
pub key_stays : (bytes more : List ℕ) (s : Spot) → s.at + s.size ≤ length bytes → key_in (bytes ++ more) s ≡ key_in bytes s
key_stays bytes more s h =
    ap (take (s.at + s.size - s.at)) (drop-append-le s.at bytes more (omega (arith, h)))
    ∙ take-append-le (s.at + s.size - s.at) (drop s.at bytes) more (omega (arith, h, length-drop s.at bytes))

module _ (bytes : List ℕ) (spots : List Spot) (heads : List ℕ) (links : AreLinked bytes spots heads) where
  pub spotted_stay : (more : List ℕ) → spotted (bytes ++ more) spots ≡ spotted bytes spots
  spotted_stay more =
      same_lists (spotted (bytes ++ more) spots) (spotted bytes spots) (length-map spots (spotted_in (bytes ++ more)) ∙ sym (length-map spots (spotted_in bytes)))
      (λ k d h.
      let inside : k < length spots = subst (λ n. k < n) (length-map spots (spotted_in (bytes ++ more))) h in
      let s = get_or spots k no_spot in
      get_or-map (spotted_in (bytes ++ more)) spots k no_spot d inside
      ∙ ap (λ x. record { key = x; ways = s.ways; step = s.step }) (key_stays bytes more s (links.each k no_spot inside).within)
      ∙ sym (get_or-map (spotted_in bytes) spots k no_spot d inside))

  pub links_stay : (more : List ℕ) → AreLinked (bytes ++ more) spots heads
  links_stay more = record {
    some = links.some;
    each = λ k d h. let old = links.each k d h in record {
      within = omega (arith, old.within, length-append bytes more);
      hash = old.hash ∙ ap hash_of (sym (key_stays bytes more (get_or spots k d) old.within));
      earlier = old.earlier;
      same = old.same;
      between = old.between;
    };
    buckets = links.buckets;
  }

  module _ (key : List ℕ) (s : Spot) (at : s.at ≡ length bytes) (size : s.size ≡ length key) (hash : s.hash ≡ hash_of key)
      (b : ℕ) (bucket : b ≡ bucket_of (length heads) (hash_of key)) (h : b < length heads) (link : s.link ≡ get_or heads b 0) where
    key_added : key_in (bytes ++ key) s ≡ key
    key_added =
        ap (λ i. take (i + s.size - i) (drop i (bytes ++ key))) at
        ∙ ap (take (length bytes + s.size - length bytes)) (drop_at bytes key (length bytes) refl)
        ∙ take_all (length bytes + s.size - length bytes) key (omega (arith, size))

    pub spotted_added : spotted (bytes ++ key) (spots ++ s ∷ []) ≡ spotted bytes spots ++ record { key = key; ways = s.ways; step = s.step } ∷ []
    spotted_added =
        map-append (spotted_in (bytes ++ key)) spots (s ∷ [])
        ∙ ap (λ xs. xs ++ spotted_in (bytes ++ key) s ∷ []) (spotted_stay key)
        ∙ ap (λ x. spotted bytes spots ++ record { key = x; ways = s.ways; step = s.step } ∷ []) key_added

    old_at : (j : ℕ) (d : Spot) → j < length spots → get_or (spots ++ s ∷ []) j d ≡ get_or spots j d
    old_at j d l = get_or_append_left spots (s ∷ []) d j l

    new_at : (d : Spot) (j : ℕ) → length spots ≡ j → get_or (spots ++ s ∷ []) j d ≡ s
    new_at d j e = get_or_push spots s d j e

    bucket_s : bucket_of (length heads) s.hash ≡ b
    bucket_s = ap (bucket_of (length heads)) hash ∙ sym bucket

    added_spot : IsSpot (bytes ++ key) (length heads) (spots ++ s ∷ []) (length spots) s
    added_spot =
        let head = links.buckets b h in
        record {
          within = omega (arith, at, size, length-append bytes key);
          hash = hash ∙ ap hash_of (sym key_added);
          earlier = omega (arith, link, head.earlier);
          same = λ d l.
              ap (λ i. bucket_of (length heads) (get_or (spots ++ s ∷ []) (i - 1) d).hash) link
              ∙ ap (λ x. bucket_of (length heads) x.hash) (old_at (get_or heads b 0 - 1) d (omega (arith, l, link, head.earlier)))
              ∙ head.same d (omega (arith, l, link)) ∙ sym bucket_s;
          between = λ j d l i e. head.later j d (omega (arith, l, link)) i (sym (ap (λ x. bucket_of (length heads) x.hash) (old_at j d i)) ∙ e ∙ bucket_s);
        }

    kept_spot : (k : ℕ) (d : Spot) → k < length spots → IsSpot (bytes ++ key) (length heads) (spots ++ s ∷ []) k (get_or spots k d)
    kept_spot k d i =
        let old = (links_stay key).each k d i in
        record {
          within = old.within;
          hash = old.hash;
          earlier = old.earlier;
          same = λ e l. ap (λ x. bucket_of (length heads) x.hash) (old_at ((get_or spots k d).link - 1) e (omega (arith, l, old.earlier, i))) ∙ old.same e l;
          between = λ j e l m q. old.between j e l m (sym (ap (λ x. bucket_of (length heads) x.hash) (old_at j e (omega (arith, m, i)))) ∙ q);
        }

    added_each : (k : ℕ) (d : Spot) → k < length (spots ++ s ∷ []) → IsSpot (bytes ++ key) (length heads) (spots ++ s ∷ []) k (get_or (spots ++ s ∷ []) k d)
    added_each k d l =
        elim (cases_lt k (length spots)) [
          | inl less ↦ subst (IsSpot (bytes ++ key) (length heads) (spots ++ s ∷ []) k) (sym (old_at k d less)) (kept_spot k d less)
          | inr ge ↦
              let here : length spots ≡ k = omega (arith, ge, l, length_push spots s) in
              subst (IsSpot (bytes ++ key) (length heads) (spots ++ s ∷ []) k) (sym (new_at d k here)) (subst (λ i. IsSpot (bytes ++ key) (length heads) (spots ++ s ∷ []) i s) here added_spot)
        ]

    added_bucket : (c : ℕ) → c < length heads → IsBucket (length heads) (spots ++ s ∷ []) c (get_or (set heads b (length spots + 1)) c 0)
    added_bucket c l =
        elim (cases_eq c b) [
          | inl e ↦
              let here : get_or (set heads b (length spots + 1)) c 0 ≡ length spots + 1 = ap (λ i. get_or (set heads b (length spots + 1)) i 0) e ∙ get_or-set_same heads b (length spots + 1) 0 h in
              subst (IsBucket (length heads) (spots ++ s ∷ []) c) (sym here) (record {
                earlier = omega (arith, length_push spots s);
                same = λ d m. ap (λ x. bucket_of (length heads) x.hash) (new_at d (length spots + 1 - 1) (omega arith)) ∙ bucket_s ∙ sym e;
                later = λ j d m i. absurd (omega (arith, m, i, length_push spots s));
              })
          | inr n ↦
              let old = links.buckets c l in
              subst (IsBucket (length heads) (spots ++ s ∷ []) c) (sym (get_or-set_other heads b c (length spots + 1) 0 n)) (record {
                earlier = omega (arith, old.earlier, length_push spots s);
                same = λ d m. ap (λ x. bucket_of (length heads) x.hash) (old_at (get_or heads c 0 - 1) d (omega (arith, m, old.earlier))) ∙ old.same d m;
                later = λ j d m i. elim (cases_lt j (length spots)) [
                  | inl less ↦ λ e. old.later j d m less (sym (ap (λ x. bucket_of (length heads) x.hash) (old_at j d less)) ∙ e)
                  | inr ge ↦ λ e. n (sym e ∙ ap (λ x. bucket_of (length heads) x.hash) (new_at d j (omega (arith, ge, i, length_push spots s))) ∙ bucket_s)
                ];
              })
        ]

    pub links_added : AreLinked (bytes ++ key) (spots ++ s ∷ []) (set heads b (length spots + 1))
    links_added =
        let same = sym (length-set heads b (length spots + 1)) in
        record {
          some = subst (λ n. 0 < n) same links.some;
          each = λ k d l. subst (λ n. IsSpot (bytes ++ key) n (spots ++ s ∷ []) k (get_or (spots ++ s ∷ []) k d)) same (added_each k d l);
          buckets = λ c l. subst (λ n. IsBucket n (spots ++ s ∷ []) c (get_or (set heads b (length spots + 1)) c 0)) same (added_bucket c (subst (λ n. c < n) (sym same) l));
        }
