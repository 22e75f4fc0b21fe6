-- A row of plugs, seen as the list of its words and as the list of what lingers.
use Rattle.std.proofs.Common.{◌≡◌, ℕ, zero, suc, ◌<◌, ◌==◌, ◌&&◌, ◌||◌, false, List, [], ◌∷◌, length, map, replicate, slice_index, slice_index_or, slice_set, Option, Some, refl, sym, ◌∙◌, ap, arith}
use Rattle.std.specs.List.{refill}
use Rattle.std.proofs.lemmas.Grind.{common_steps}
use Rattle.std.proofs.lemmas.List.{map-set, get_or-map, length-map}
use Rattle.fw_csr.specs.declared.request.Request.{Request}
use Rattle.fw_csr.specs.Replies.{word_after}
use Rattle.fw_plug.specs.declared.plug.Plug.{Plug}
use Rattle.fw_words.specs.Quadlet.{field}
use Rattle.fw_plug.specs.Words.{is_connected}
use Rattle.fw_plug.specs.Kept.{AreReset}
use Rattle.fw_plug.specs.Plugs.{words_of, lingering_of, active, is_active, after_at, lingering_after, disconnected, plug_after_reset, plug_after_second}

pub words_of_copies : (n : ℕ) (p : Plug) → words_of (replicate n p) ≡ replicate n p.word
words_of_copies zero p = refl
words_of_copies (suc n) p = ap (λ xs. p.word ∷ xs) (words_of_copies n p)

pub lingering_of_copies : (n : ℕ) (p : Plug) → lingering_of (replicate n p) ≡ replicate n p.lingers
lingering_of_copies zero p = refl
lingering_of_copies (suc n) p = ap (λ xs. p.lingers ∷ xs) (lingering_of_copies n p)

pub words_after_reset : (ps : List Plug) → words_of (map plug_after_reset ps) ≡ map disconnected (words_of ps)
words_after_reset [] = refl
words_after_reset (p ∷ ps) = ap (λ xs. disconnected p.word ∷ xs) (words_after_reset ps)

pub lingering_after_reset : (ps : List Plug) → lingering_of (map plug_after_reset ps) ≡ active (words_of ps) (lingering_of ps)
lingering_after_reset [] = refl
lingering_after_reset (p ∷ ps) = ap (λ xs. is_active p.word p.lingers ∷ xs) (lingering_after_reset ps)

-- ---- a bus reset that comes after another

disconnected_twice : (w : ℕ) → disconnected (disconnected w) ≡ disconnected w
disconnected_twice w = omega arith

not_connected : (w : ℕ) → is_connected (disconnected w) ≡ false
not_connected w =
    let broadcast : field (disconnected w) 1 1 ≡ 0 = omega arith in
    let counter : field (disconnected w) 2 7 ≡ 0 = omega arith in
    rw broadcast (rw counter refl)

pub reset_twice : (ps : List Plug) → AreReset (map plug_after_reset ps)
reset_twice [] = refl
reset_twice (p ∷ ps) =
    let lingers : is_active (disconnected p.word) (is_active p.word p.lingers) ≡ is_active p.word p.lingers = ap (λ c. c || is_active p.word p.lingers) (not_connected p.word) in
    λ i. (record { word = disconnected_twice p.word i; lingers = lingers i }) ∷ reset_twice ps i

pub words_kept : (ps : List Plug) → AreReset ps → words_of ps ≡ map disconnected (words_of ps)
words_kept ps e = ap (λ xs. words_of xs) (sym e) ∙ words_after_reset ps

pub lingering_kept : (ps : List Plug) → AreReset ps → lingering_of ps ≡ active (words_of ps) (lingering_of ps)
lingering_kept ps e = ap (λ xs. lingering_of xs) (sym e) ∙ lingering_after_reset ps

pub words_after_second : (ps : List Plug) → words_of (map plug_after_second ps) ≡ words_of ps
words_after_second [] = refl
words_after_second (p ∷ ps) = ap (λ xs. p.word ∷ xs) (words_after_second ps)

pub lingering_after_second : (ps : List Plug) → lingering_of (map plug_after_second ps) ≡ map (λ l. false) (lingering_of ps)
lingering_after_second [] = refl
lingering_after_second (p ∷ ps) = ap (λ xs. false ∷ xs) (lingering_after_second ps)

-- ---- a row that was lent and has come back

whole : (items ps : List Plug) → length ps ≡ length items → refill (length items) items ps ≡ ps
whole items ps e = grind (arith, common_steps)

-- each plug p of the row is f p
pub changed : (f : Plug → Plug) (items old new : List Plug) → old ≡ items → new ≡ map f old → refill (length items) items new ≡ map f items
changed f items old new is e =
    let made : new ≡ map f items = e ∙ ap (λ xs. map f xs) is in
    whole items new (ap (λ xs. length xs) made ∙ length-map items f) ∙ made

pub answered : (items old new : List Plug) (words : List ℕ) (n : ℕ) (r : Request) → old ≡ items → words_of items ≡ words → length new ≡ length old
    → words_of new ≡ after_at (Some n) r (words_of old) → words_of (refill (length items) items new) ≡ after_at (Some n) r words
answered items old new words n r is seen size e =
    let same : words_of old ≡ words = ap (λ xs. words_of xs) is ∙ seen in
    ap (λ xs. words_of xs) (whole items new (size ∙ ap (λ xs. length xs) is)) ∙ e ∙ ap (λ xs. after_at (Some n) r xs) same

-- ---- a request at plug n, which is then p

word_at : (ps : List Plug) (n : ℕ) (d : Plug) → n < length ps → (slice_index_or ps n d).word ≡ slice_index (words_of ps) n
word_at ps n d lt = sym (get_or-map (λ (p : Plug). p.word) ps n d 0 lt)

lingers_at : (ps : List Plug) (n : ℕ) (d : Plug) → n < length ps → (slice_index_or ps n d).lingers ≡ slice_index_or (lingering_of ps) n false
lingers_at ps n d lt = sym (get_or-map (λ (p : Plug). p.lingers) ps n d false lt)

pub words_answered : (ps : List Plug) (n : ℕ) (d p : Plug) (r : Request) (at : Option ℕ) → at ≡ Some n → n < length ps → p.word ≡ word_after (slice_index_or ps n d).word r
    → words_of (slice_set ps n p) ≡ after_at at r (words_of ps)
words_answered ps n d p r at found lt e =
    map-set (λ (x : Plug). x.word) ps n p
    ∙ ap (λ w. slice_set (words_of ps) n w) (e ∙ ap (λ w. word_after w r) (word_at ps n d lt))
    ∙ ap (λ o. after_at o r (words_of ps)) (sym found)

pub lingering_answered : (ps : List Plug) (n : ℕ) (d p : Plug) (r : Request) (at : Option ℕ) → at ≡ Some n → n < length ps
    → p.lingers ≡ ((word_after (slice_index_or ps n d).word r == (slice_index_or ps n d).word) && (slice_index_or ps n d).lingers)
    → lingering_of (slice_set ps n p) ≡ lingering_after at r (words_of ps) (lingering_of ps)
lingering_answered ps n d p r at found lt e =
    let word = word_at ps n d lt in
    let lingers = lingers_at ps n d lt in
    map-set (λ (x : Plug). x.lingers) ps n p
    ∙ ap (λ l. slice_set (lingering_of ps) n l) (e ∙ (λ i. (word_after (word i) r == word i) && lingers i))
    ∙ ap (λ o. lingering_after o r (words_of ps) (lingering_of ps)) (sym found)
