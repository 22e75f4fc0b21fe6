-- Laws of what was seen.
use Rattle.fw_tree.proofs.Common.{◌≡◌, ◌⊎◌, inl, inr, ℕ, zero, suc, ◌<◌, List, [], ◌∷◌, length, Bool, true, false, IsTrue, slice_index_or, replicate, slice_set, Option, Some, None, IfSome, arith}
use Rattle.fw_tree.proofs.Common.{refl, sym, subst, ◌∙◌, get_or-set_other, cases_eq, End, Peers, peer, Walk, here, along, is_seen, unseen, LeadsTo}
use Rattle.std.proofs.lemmas.Grind.{common_steps}
use Rattle.fw_tree.specs.Cables.{AllReached, AreMarked, IsClosed, MarksPeers, Spreads}

-- what is seen after a mark
pub seen_same : (xs : List Bool) (e : ℕ) → e < length xs → IsTrue (is_seen (slice_set xs e true) e)
seen_same xs e h = grind (arith, common_steps)

pub seen_keeps : (xs : List Bool) (e d : ℕ) → IsTrue (is_seen xs d) → IsTrue (is_seen (slice_set xs e true) d)
seen_keeps xs e d h = grind (arith, common_steps)

pub seen_from : (xs : List Bool) (e d : ℕ) → IsTrue (is_seen (slice_set xs e true) d) → IsTrue (is_seen xs d) ⊎ (d ≡ e)
seen_from xs e d h = elim (cases_eq d e) [ inl same ↦ inr same | inr differ ↦ inl (sym (get_or-set_other xs e d true false differ) ∙ h) ]

pub unseen_set : (xs : List Bool) (e : ℕ) → e < length xs → is_seen xs e ≡ false → unseen (slice_set xs e true) < unseen xs
unseen_set [] e h f = absurd (omega arith)
unseen_set (true ∷ xs) zero h f = cc
unseen_set (false ∷ xs) zero h f = omega arith
unseen_set (true ∷ xs) (suc e) h f = unseen_set xs e (omega arith) f
unseen_set (false ∷ xs) (suc e) h f = omega (arith, unseen_set xs e (omega arith) f)

leads_seen : (o : Option End) (d : ℕ) (seen : List Bool) → LeadsTo o d → IfSome o (λ e. IsTrue (is_seen seen e.device)) → IsTrue (is_seen seen d)
leads_seen None d seen l h = absurd l
leads_seen (Some e) d seen l h = let P : ℕ → Type 0 = λ n. IsTrue (is_seen seen n) in subst P l h

-- A closed set that has a has all that can be walked to from a.
pub walked : (g : Peers) (seen : List Bool) (a b : ℕ) → IsClosed g seen → IsTrue (is_seen seen a) → Walk g a b → IsTrue (is_seen seen b)
walked g seen a b closed first here = first
walked g seen a c closed first (along {b = b} w j) = leads_seen (peer g b j.port) c seen j.leads (closed b j.port (walked g seen a b closed first w))

pub spreads_of : (g : Peers) (old new : List Bool) (d : ℕ) → IsTrue (is_seen old d) → MarksPeers (slice_index_or g d []) old new → Spreads g old new
spreads_of g old new d first m = record {
  keeps = m.keeps;
  reached = λ a all e h. elim (m.from e h) [ inl o ↦ all e o | inr p ↦ along (all d first) (record { port = p.port; leads = p.leads }) ];
}

blank : (n d : ℕ) → is_seen (replicate n false) d ≡ false
blank zero d = refl
blank (suc n) zero = refl
blank (suc n) (suc d) = blank n d

pub only_from : (n e d : ℕ) → IsTrue (is_seen (slice_set (replicate n false) e true) d) → d ≡ e
only_from n e d h = elim (seen_from (replicate n false) e d h) [ inl none ↦ cc (sym (blank n d) ∙ none) | inr same ↦ same ]

pub reached_first : (g : Peers) (a : ℕ) (seen : List Bool) → ((d : ℕ) → IsTrue (is_seen seen d) → d ≡ a) → AllReached g a seen
reached_first g a seen others d h = let P : ℕ → Type 0 = Walk g a in subst P (sym (others d h)) here

-- if nothing is joined to the one device that was seen, all that can be walked to was seen
pub closed_alone : (g : Peers) (a : ℕ) (old seen : List Bool) → ((d : ℕ) → IsTrue (is_seen old d) → d ≡ a) → seen ≡ old → AreMarked (slice_index_or g a []) seen
    → IsClosed g seen
closed_alone g a old seen others same marked d p found =
    let P : List Bool → Type 0 = λ xs. IsTrue (is_seen xs d) in
    let is : d ≡ a = others d (subst P same found) in
    let Q : ℕ → Type 0 = λ n. IfSome (peer g n p) (λ e. IsTrue (is_seen seen e.device)) in
    subst Q (sym is) (marked p)
