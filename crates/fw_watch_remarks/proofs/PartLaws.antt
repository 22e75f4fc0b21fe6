-- What loops append, one part more.
use Rattle.std.proofs.Common.{◌≡◌, refl, ap, sym, ◌∙◌, ℕ, zero, suc, ◌+◌, ◌/◌, ◌%◌, ◌^◌, ◌==◌, ◌||◌, Bool, true, false, List, [], ◌∷◌, ◌++◌, append_assoc, add-one}
use Rattle.std.proofs.lemmas.List.{append-nil}
use Rattle.fw_watch_remarks.specs.Parts.{channel_at, channels_to, any_to, has_bit, next_owner, owners_to}

pub no_channels : (first set : ℕ) → channels_to 0 first set ≡ []
unfolding channels_to
no_channels first set = refl

pub next_channel : (n first set : ℕ) → channels_to (n + 1) first set ≡ channels_to n first set ++ channel_at n first set
unfolding channels_to
next_channel n first set = rw (add-one n) refl

pub none_of : (owners : ℕ) → any_to 0 owners ≡ false
unfolding any_to
none_of owners = refl

pub any_more : (n owners : ℕ) → any_to (n + 1) owners ≡ (any_to n owners || has_bit owners n)
unfolding any_to
any_more n owners = rw (add-one n) refl

pub no_owners : (owners : ℕ) → owners_to 0 owners ≡ []
unfolding owners_to
no_owners owners = refl

pub next_owner_text : (n owners : ℕ) → owners_to (n + 1) owners ≡ owners_to n owners ++ next_owner owners n (any_to n owners)
unfolding owners_to
next_owner_text n owners = rw (add-one n) refl

-- a part more after others
pub stepped : (s t u a b all : List ℕ) → t ≡ s ++ a → u ≡ t ++ b → all ≡ a ++ b → u ≡ s ++ all
stepped s t u a b all e f g = f ∙ ap (λ x. x ++ b) e ∙ append_assoc s a b ∙ ap (λ x. s ++ x) (sym g)

-- nothing more
pub begun : (s a : List ℕ) → a ≡ [] → s ≡ s ++ a
begun s a e = sym (append-nil s) ∙ ap (λ x. s ++ x) (sym e)
