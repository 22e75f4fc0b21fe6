-- A device's plugs: their registers by offset (IEC 61883-1, plug control registers), which plugs talk and hear, and which linger.
use Rattle.std.specs.Prelude.{ℕ, ◌+◌, ◌-◌, ◌*◌, ◌/◌, ◌^◌, ◌==◌, ◌&&◌, ◌||◌, nat_lt, Bool, false, List}
use Rattle.std.specs.Prelude.{[], ◌∷◌, length, slice_index, slice_index_or, slice_set, replicate, map, Option, Some, None, if◌then◌else◌}
use Rattle.fw_words.specs.Quadlet.{field}
use Rattle.fw_words.specs.Layout.{packed}
use Rattle.fw_csr.specs.declared.offset.TheConstants.{OMPR, OPCR, IMPR, IPCR}
use Rattle.fw_csr.specs.Requests.{offset_of}
use Rattle.fw_csr.specs.Replies.{word_after}
use Rattle.fw_csr.specs.declared.request.Request.{Request}
use Rattle.fw_csr.specs.declared.register.RegisterAccess.{RegisterAccess}
use Rattle.fw_csr.specs.declared.register.RegisterAccess.TheVariants.{ReadOnly, ReadSwap}
use Rattle.fw_plug.specs.declared.plug.Plug.{Plug}
use Rattle.fw_plug.specs.Words.{is_connected}

-- what a device keeps of its plugs: its data rate, the words of its output and its input plugs, and which of them linger
pub record PlugWords : Type 0 where
  pub rate : ℕ
  pub outputs : List ℕ
  pub inputs : List ℕ
  pub lingering_outputs : List Bool
  pub lingering_inputs : List Bool

-- an output plug talks, and an input plug hears, if it is connected, and if it lingers: it goes on since a bus reset
abbrev pub is_active : ℕ → Bool → Bool
is_active word lingers = is_connected word || lingers

-- a row of plugs: the word of each, and which linger
pub record RowWords : Type 0 where
  pub words : List ℕ
  pub lingering : List Bool

-- the words of a row of plugs
abbrev pub words_of : List Plug → List ℕ
words_of plugs = map (λ (p : Plug). p.word) plugs

-- which plugs of a row linger
abbrev pub lingering_of : List Plug → List Bool
lingering_of plugs = map (λ (p : Plug). p.lingers) plugs

-- on-line, not connected, on channel 63; the payload of an output plug is 122 quadlets
abbrev pub first_out_word : ℕ → ℕ
first_out_word rate = packed ((1, 1) ∷ (1, 0) ∷ (6, 0) ∷ (2, 0) ∷ (6, 63) ∷ (2, rate) ∷ (4, 0) ∷ (10, 122) ∷ []) 0

-- the word of an input plug at first: on-line, not connected, on channel 63
abbrev pub first_in_word : ℕ
first_in_word = packed ((1, 1) ∷ (1, 0) ∷ (6, 0) ∷ (2, 0) ∷ (6, 63) ∷ (16, 0) ∷ []) 0

-- the plugs of a device at first: none is connected, and none lingers
abbrev pub first_words : ℕ → ℕ → ℕ → PlugWords
first_words outs ins rate = record {
  rate = rate;
  outputs = replicate outs (first_out_word rate);
  inputs = replicate ins first_in_word;
  lingering_outputs = replicate outs false;
  lingering_inputs = replicate ins false;
}

-- the registers as requests see them: the data rate, how many plugs there are, and the word of each
pub record PlugTable : Type 0 where
  pub rate : ℕ
  pub outputs : ℕ
  pub inputs : ℕ
  pub output_word : ℕ → ℕ
  pub input_word : ℕ → ℕ

-- the registers of a device's plugs, as requests see them
abbrev pub table_of : PlugWords → PlugTable
table_of p = record { rate = p.rate; outputs = length p.outputs; inputs = length p.inputs; output_word = slice_index p.outputs; input_word = slice_index p.inputs }

-- the master plug register of the output plugs: data rate, broadcast channel base, extension fields, reserved, and how many plugs there are
abbrev pub output_master : ℕ → ℕ → ℕ
output_master rate plugs = packed ((2, rate) ∷ (6, 0x3F) ∷ (8, 0xFF) ∷ (8, 0xFF) ∷ (3, 0) ∷ (5, plugs) ∷ []) 0

-- the master plug register of the input plugs: data rate, extension fields, reserved, and how many plugs there are
abbrev pub input_master : ℕ → ℕ → ℕ
input_master rate plugs = packed ((2, rate) ∷ (6, 0) ∷ (8, 0xFF) ∷ (8, 0xFF) ∷ (3, 0) ∷ (5, plugs) ∷ []) 0

-- the number of the plug whose register stands at an offset, in a row of quadlets from a first offset on
abbrev pub plug_at : ℕ → ℕ → ℕ → Option ℕ
plug_at first plugs offset = let n = (offset - first) / 4 in if (offset == first + 4 * n) && nat_lt n plugs then Some n else None

-- a register that can be read and swapped
abbrev pub plug_register : (ℕ → ℕ) → Option ℕ → Option RegisterAccess
plug_register word None = None
plug_register word (Some n) = Some (ReadSwap (word n))

-- the output plug whose oPCR stands at an offset
abbrev pub output_at : ℕ → ℕ → Option ℕ
output_at plugs offset = plug_at OPCR plugs offset

-- the input plug whose iPCR stands at an offset
abbrev pub input_at : ℕ → ℕ → Option ℕ
input_at plugs offset = plug_at IPCR plugs offset

-- the plug control register at an offset: oMPR, iMPR, an oPCR or an iPCR
abbrev pub register_at : PlugTable → ℕ → Option RegisterAccess
register_at p offset =
    if offset == OMPR then Some (ReadOnly (output_master p.rate p.outputs))
    else if offset == IMPR then Some (ReadOnly (input_master p.rate p.inputs))
    else if nat_lt offset IMPR then plug_register p.output_word (output_at p.outputs offset)
    else plug_register p.input_word (input_at p.inputs offset)

-- the words of a row after a request at one of them, or at none
abbrev pub after_at : Option ℕ → Request → List ℕ → List ℕ
after_at None r words = words
after_at (Some n) r words = slice_set words n (word_after (slice_index words n) r)

-- which plugs of a row linger after a request at one of them, or at none: one whose word the request changes lingers no more
abbrev pub lingering_after : Option ℕ → Request → List ℕ → List Bool → List Bool
lingering_after None r words lingering = lingering
lingering_after (Some n) r words lingering =
    slice_set lingering n ((word_after (slice_index words n) r == slice_index words n) && slice_index_or lingering n false)

-- the plugs of a device after a request
abbrev pub words_after : PlugWords → Request → PlugWords
words_after p r = record p {
  outputs = after_at (output_at (length p.outputs) (offset_of r)) r p.outputs;
  inputs = after_at (input_at (length p.inputs) (offset_of r)) r p.inputs;
  lingering_outputs = lingering_after (output_at (length p.outputs) (offset_of r)) r p.outputs p.lingering_outputs;
  lingering_inputs = lingering_after (input_at (length p.inputs) (offset_of r)) r p.inputs p.lingering_inputs;
}

-- a bus reset: the broadcast connection bit and the point-to-point connection counter become 0
abbrev pub disconnected : ℕ → ℕ
disconnected w = field w 0 0 * 2 ^ 31 + field w 8 31

-- a plug after a bus reset: not connected, and lingering if it was active
abbrev pub plug_after_reset : Plug → Plug
plug_after_reset p = record { word = disconnected p.word; lingers = is_active p.word p.lingers }

-- a plug after the reclaim second, when none lingers
abbrev pub plug_after_second : Plug → Plug
plug_after_second p = record p { lingers = false }

-- the plugs of a row that are active
abbrev pub active : List ℕ → List Bool → List Bool
active [] lingering = []
active (word ∷ words) [] = []
active (word ∷ words) (lingers ∷ lingering) = is_active word lingers ∷ active words lingering

-- the plugs that talk and hear at a bus reset linger after it
abbrev pub reset_words : PlugWords → PlugWords
reset_words p = record p {
  outputs = map disconnected p.outputs;
  inputs = map disconnected p.inputs;
  lingering_outputs = active p.outputs p.lingering_outputs;
  lingering_inputs = active p.inputs p.lingering_inputs;
}

-- the second after a bus reset is over: no plug lingers
abbrev pub after_second : PlugWords → PlugWords
after_second p = record p { lingering_outputs = map (λ l. false) p.lingering_outputs; lingering_inputs = map (λ l. false) p.lingering_inputs }
