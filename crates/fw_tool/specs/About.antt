-- What the program says of itself.
use Rattle.std.specs.Prelude.{◌≡◌, ◌⊎◌, ℕ, List, [], ◌∷◌, ◌++◌, Option, codes}
use Rattle.fw_outside.specs.Outside.{Grows, AppendsPrefix}
use Rattle.fw_outside.specs.declared.stop.Stop.TheVariants.{WriteFault}
use Rattle.fw_tool.specs.declared.about.About.{About}
use Rattle.fw_tool.specs.declared.about.About.TheVariants.{Help, Version}
use Rattle.fw_tool.specs.declared.ending.Ending.{Ending}
use Rattle.fw_tool.specs.declared.ending.Ending.TheVariants.{Done, Stopped}

-- each text, a line a line, with its line feed
abbrev pub about_text : About → List ℕ
about_text Version = codes "fire 1.0" ++ 10 ∷ []
about_text Help = codes "fire simulates a FireWire (IEEE 1394) audio and video bus, and reads the logs of such buses." ++ 10 ∷
    10 ∷
    codes "  fire WORD < INPUT > OUTPUT" ++ 10 ∷
    10 ∷
    codes "A script goes in:" ++ 10 ∷
    codes "  run            writes the log of what happens on the bus" ++ 10 ∷
    codes "  dub            writes the blocks that the deck named by its line `dub` recorded" ++ 10 ∷
    codes "  trace          writes the script with what each line caused, by name" ++ 10 ∷
    codes "  check          says why a line is refused, or counts what the script has" ++ 10 ∷
    codes "  explore WORDS  tells how every interleaving of half steps and lines after it ends" ++ 10 ∷
    10 ∷
    codes "A log of version 1 or 2 goes in (docs/CAPTURES.md says how to make one of a capture):" ++ 10 ∷
    codes "  explain        writes a line an entry, in words" ++ 10 ∷
    codes "  decode         writes a line an entry, with the raw quadlets" ++ 10 ∷
    codes "  json           writes a JSON object an entry, each on its line, with every field" ++ 10 ∷
    codes "  page           writes the log as a page of HTML, to look at" ++ 10 ∷
    codes "  dv             counts packets, blocks and gaps of each channel" ++ 10 ∷
    codes "  audit          says whether channels, units and connections went by the rules of docs/AUDIT.md" ++ 10 ∷
    codes "  holders        says who holds what, each time that changes" ++ 10 ∷
    codes "  watch          says what channels and plugs did, what changed unseen, and what was odd" ++ 10 ∷
    codes "  map            writes the tree of the last bus reset, and the speeds" ++ 10 ∷
    codes "  map dot        writes that tree for Graphviz" ++ 10 ∷
    codes "  convert 1      writes the log in version 1" ++ 10 ∷
    codes "  convert 2      writes the log in version 2" ++ 10 ∷
    10 ∷
    codes "Nothing goes in:" ++ 10 ∷
    codes "  gen NUMBER     runs the script of a number, 0 to 4294967295, and counts what happened" ++ 10 ∷
    codes "  help           writes this, as --help and -h do" ++ 10 ∷
    codes "  version        writes the version, as --version and -V do" ++ 10 ∷
    10 ∷
    codes "The status is 0 if all is done. Else a note on standard error says why:" ++ 10 ∷
    codes "  2  usage: wrong words                 7  the input is too long" ++ 10 ∷
    codes "  3  a line of the script is refused    8  no memory is left" ++ 10 ∷
    codes "  4  the input is no log                9  audit, holders: an entry breaks the account" ++ 10 ∷
    codes "  5  the input cannot be read          10  map: no tree" ++ 10 ∷
    codes "  6  the output cannot be written      11  explore: a word is refused, or too much to explore" ++ 10 ∷
    10 ∷
    codes "Read README.md first; docs/SCRIPT.md has the scripts, docs/LOG.md the logs and their lines," ++ 10 ∷
    codes "docs/BUS.md the bus, docs/DECKS.md the decks and tapes; examples/ has scripts to run." ++ 10 ∷ []

-- what a sink held before and after: all is done and the text was written whole, or the sink failed and a prefix of it was
abbrev pub IsSaid : Option (List ℕ) → Option (List ℕ) → List ℕ → Ending → Type 0
IsSaid held held' text ending = ((ending ≡ Done) × Grows held held' text) ⊎ ((ending ≡ Stopped WriteFault) × AppendsPrefix held held' text)
