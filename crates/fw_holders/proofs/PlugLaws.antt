-- The lines of plugs, one by one.
use Rattle.fw_holders.proofs.Common.{◌≡◌, ◌<◌, ◌≤◌, ◌+◌, ◌++◌, ℕ, Bool, true, false, nat_lt, List, [], slice_index, codes, decimal, refl, sym, ◌∙◌, ap, arith, false≢true, field, PlugAt, at_plug}
use Rattle.fw_holders.proofs.Common.{sum_to, NodeRow, Account, has_connection, is_output, is_input, StandsFor, SeatsFor, Seats, Tables, counts_below, lines_below, plug_lines, output_line, input_line}
use Rattle.std.proofs.Common.{◌||◌, ◌⊎◌, inl, inr, zero, suc, add-one}
use Rattle.std.proofs.lemmas.Bool.{cases_lt}
use Rattle.fw_plug.specs.Words.{OutFields, InFields}
use Rattle.fw_model_account.specs.Account.{Connections}
use Rattle.fw_model_account.proofs.Decoded.{output_of_word, input_of_word}
use Rattle.fw_account_tables.specs.Stands.{owner_of, word_at}
use Rattle.fw_holders_text.specs.declared.names.Side.{Side}
use Rattle.fw_holders_text.specs.Names.{who, plug_text}
use Rattle.fw_holders.specs.Table.{with_count, with_broadcast, owners_text, plug_line}

pub no_counts : (nodes : List NodeRow) (counts : ℕ → ℕ) → counts_below 0 nodes counts ≡ []
unfolding counts_below
no_counts nodes counts = refl

pub next_count : (n : ℕ) (nodes : List NodeRow) (counts : ℕ → ℕ) → counts_below (n + 1) nodes counts ≡ with_count (counts n) (who nodes n) (counts_below n nodes counts)
unfolding counts_below
next_count n nodes counts = rw add-one refl

pub no_plugs : (d : ℕ) (line : PlugAt → List ℕ) → lines_below 0 d line ≡ []
unfolding lines_below
no_plugs d line = refl

pub next_plug : (n d : ℕ) (line : PlugAt → List ℕ) → lines_below (n + 1) d line ≡ lines_below n d line ++ line (at_plug d n)
unfolding lines_below
next_plug n d line = rw add-one refl

pub no_devices : (l : Account) → plug_lines 0 l ≡ []
unfolding plug_lines
no_devices l = refl

pub next_device : (n : ℕ) (l : Account) → plug_lines (n + 1) l ≡ plug_lines n l ++ lines_below 31 n (output_line l) ++ lines_below 31 n (input_line l)
unfolding plug_lines
next_device n l = rw add-one refl

-- a sum grows with its bound
grows_more : (f : ℕ → ℕ) (n m : ℕ) → n ≤ suc m → (n ≤ m → sum_to n f ≤ sum_to m f) → sum_to n f ≤ sum_to (suc m) f
unfolding sum_to
grows_more f n m le before = by (cases_lt m n)
  where
    by : (m < n) ⊎ (n ≤ m) → sum_to n f ≤ sum_to m f + f m
    by (inl lt) = let e : n ≡ suc m = omega arith in rw e (omega arith)
    by (inr less) = let e = before less in omega arith

pub sum_grows : (f : ℕ → ℕ) (n m : ℕ) → n ≤ m → sum_to n f ≤ sum_to m f
sum_grows f n zero le = let e : n ≡ 0 = omega arith in rw e (omega arith)
sum_grows f n (suc m) le = grows_more f n m le (λ less. sum_grows f n m less)

-- counts that agree are told the same
pub counts_same : (n : ℕ) (nodes : List NodeRow) (f g : ℕ → ℕ) → ((k : ℕ) → k < n → f k ≡ g k) → counts_below n nodes f ≡ counts_below n nodes g
unfolding counts_below
counts_same zero nodes f g same = refl
counts_same (suc n) nodes f g same =
    ap (λ (x : List ℕ). with_count (f n) (who nodes n) x) (counts_same n nodes f g (λ k lt. same k (omega arith)))
    ∙ ap (λ m. with_count m (who nodes n) (counts_below n nodes g)) (same n (omega arith))

-- whose the connections are that seats have
pub owners_same : (nodes : List NodeRow) (x : Seats) (s : Connections) (dead : ℕ) → SeatsFor x s → dead ≡ s.orphaned
    → with_broadcast nodes (owner_of x.broadcaster) (with_count dead (codes "the dead") (counts_below 63 nodes (slice_index x.counts))) ≡ owners_text nodes s
owners_same nodes x s dead h e =
    ap (λ o. with_broadcast nodes o (with_count dead (codes "the dead") (counts_below 63 nodes (slice_index x.counts)))) h.broadcast
    ∙ ap (λ n. with_broadcast nodes s.broadcast (with_count n (codes "the dead") (counts_below 63 nodes (slice_index x.counts)))) e
    ∙ ap (λ (y : List ℕ). with_broadcast nodes s.broadcast (with_count s.orphaned (codes "the dead") y)) (counts_same 63 nodes (slice_index x.counts) s.counts h.counts)

-- the line of a plug with connections, and of one without
pub plug_line_is : (nodes : List NodeRow) (side : Side) (p : PlugAt) (channel : ℕ) (s : Connections) → has_connection s ≡ true
    → (codes "plug " ++ plug_text nodes side p ++ codes ", channel " ++ decimal channel ++ codes ": ") ++ owners_text nodes s ++ codes "\n" ≡ plug_line nodes side p channel s
unfolding plug_line
plug_line_is nodes side p channel s e = rw e refl

pub no_plug_line : (nodes : List NodeRow) (side : Side) (p : PlugAt) (channel : ℕ) (s : Connections) → has_connection s ≡ false → [] ≡ plug_line nodes side p channel s
unfolding plug_line
no_plug_line nodes side p channel s e = rw e refl

or_left : (a b : Bool) → a ≡ true → (a || b) ≡ true
or_left true b e = refl
or_left false b e = absurd (false≢true e)

-- a plug that is not there has no connection
pub silent_output : (t : Tables) (l : Account) (p : PlugAt) → StandsFor t l → nat_lt p.plug (slice_index t.outs p.device) ≡ false → has_connection (l.outputs p) ≡ false
silent_output t l p h none = by (has_connection (l.outputs p)) refl
  where
    by : (b : Bool) → has_connection (l.outputs p) ≡ b → has_connection (l.outputs p) ≡ false
    by false e = e
    by true e = absurd (false≢true (sym (h.plugs.outs p ∙ none) ∙ h.sound.there p (or_left _ _ e)))

pub silent_input : (t : Tables) (l : Account) (p : PlugAt) → StandsFor t l → nat_lt p.plug (slice_index t.ins p.device) ≡ false → has_connection (l.inputs p) ≡ false
silent_input t l p h none = by (has_connection (l.inputs p)) refl
  where
    by : (b : Bool) → has_connection (l.inputs p) ≡ b → has_connection (l.inputs p) ≡ false
    by false e = e
    by true e = absurd (false≢true (sym (h.plugs.ins p ∙ none) ∙ h.sound.inputs_there p e))

-- the channel that the word of a plug shows
pub output_keeps : (t : Tables) (l : Account) (p : PlugAt) → StandsFor t l → is_output l.latest p ≡ true → field (word_at t.outputs.items p) 10 15 ≡ (l.settings p).channel
output_keeps t l p h is = ap (λ w. field w 10 15) (h.outputs.words p is) ∙ ap (λ (f : OutFields). f.settings.channel) (output_of_word l p h.sound is)

pub input_keeps : (t : Tables) (l : Account) (p : PlugAt) → StandsFor t l → is_input l.latest p ≡ true → field (word_at t.inputs.items p) 10 15 ≡ l.input_channel p
input_keeps t l p h is = ap (λ w. field w 10 15) (h.inputs.words p is) ∙ ap (λ (f : InFields). f.channel) (input_of_word l p h.sound is)
