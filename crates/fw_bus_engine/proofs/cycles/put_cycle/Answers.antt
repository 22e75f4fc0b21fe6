use Rattle.fw_bus_engine.proofs.Common.{◌≤◌, ◌+◌, ℕ, refl, sym, ◌∙◌, arith}
use Rattle.fw_bus_engine.proofs.BegunCycles.{begun_in, root_few}
use Rattle.fw_bus_engine.proofs.OneCycle.{cycle_then, cycle_alone, cycle_unheard}
use Rattle.fw_bus_engine.proofs.Doings.{ready_after}
use Rattle.fw_bus_engine.proofs.cycles.put_cycle.Goals as goal

-- ---- there is room

room_entries : (n : ℕ) → n + 37096 ≤ 102632 → n + 2292 ≤ 102632
room_entries n room = omega (arith, room)

room_begun : (n next : ℕ) → n + 37096 ≤ 102632 → next ≤ n + 2292 → next + 2292 ≤ 102632
room_begun n next room size = omega (arith, room, size)

room_packets : (n next put : ℕ) → n + 37096 ≤ 102632 → next ≤ n + 2292 → put ≤ next + 2292 → put + 32512 ≤ 102632
room_packets n next put room size more = omega (arith, room, size, more)

-- ---- the cycle comes

pub next_cycle-requires : goal.next_cycle-requires
next_cycle-requires g c = record {
  ready = c.requires.ready;
  few = c.requires.few;
  talkers = c.requires.talkers;
  still = c.requires.still;
  room = room_entries _ c.requires.room;
}

pub returns-in_default : goal.returns-in_default
returns-in_default g c = record {
  talkers = c.next_cycle.ensures.talkers;
  still = c.next_cycle.ensures.still;
  fills = cycle_alone (λ s good st. sym (c.root.ensures s good st) ∙ c.in_default.is) c.next_cycle.ensures.fills;
}

pub cycle_start-start-requires : goal.cycle_start-start-requires
cycle_start-start-requires g c =
    root_few _ (ready_after c.requires.ready c.next_cycle.ensures.fills) (λ s good st. sym (c.root.ensures s good st) ∙ c.in-Some.is)

pub put_entry-requires : goal.put_entry-requires
put_entry-requires g c = record { fits = c.cycle_start-start.ensures.fits; room = room_begun _ _ c.requires.room c.next_cycle.ensures.size }

-- ---- what is recorded

pub recording_on-requires : goal.recording_on-requires
recording_on-requires g c =
    record {
      ready = ready_after c.requires.ready
          (begun_in c.next_cycle.new.room.cycle c.put_entry.new.room.cycle c.in-Some.root _ c.requires.ready c.requires.written c.next_cycle.ensures.fills
          (λ s good st. sym (c.root.ensures s good st) ∙ c.in-Some.is)
          c.cycle_start-start.ensures.value c.put_entry.ensures.gives);
    }

-- ---- the packets

pub put_packets-requires : goal.put_packets-requires
put_packets-requires g c = record {
  ready = ready_after c.requires.ready
      (begun_in c.next_cycle.new.room.cycle c.put_entry.new.room.cycle c.in-Some.root _ c.requires.ready c.requires.written c.next_cycle.ensures.fills
      (λ s good st. sym (c.root.ensures s good st) ∙ c.in-Some.is)
      c.cycle_start-start.ensures.value c.put_entry.ensures.gives);
  desk = c.requires.desk;
  talkers = c.next_cycle.ensures.talkers;
  nothing = tt;
  room = room_packets _ _ _ c.requires.room c.next_cycle.ensures.size c.put_entry.ensures.size;
}

pub returns-in_default-recording_on : goal.returns-in_default-recording_on
returns-in_default-recording_on g c =
    let begun = begun_in c.next_cycle.new.room.cycle c.put_entry.new.room.cycle c.in-Some.root _ c.requires.ready c.requires.written c.next_cycle.ensures.fills
    (λ s good st. sym (c.root.ensures s good st) ∙ c.in-Some.is)
    c.cycle_start-start.ensures.value c.put_entry.ensures.gives in
    record {
      talkers = c.next_cycle.ensures.talkers;
      still = c.next_cycle.ensures.still;
      fills = cycle_unheard _ c.put_packets.new.heard refl (λ s good st. sym c.in_default-recording_on.is
          ∙ c.recording_on.ensures.value s good st) c.put_packets.ensures.same begun c.put_packets.ensures.puts;
    }

pub put_heard-requires : goal.put_heard-requires
put_heard-requires g c = record {
  ready = ready_after c.requires.ready
      (begun_in c.next_cycle.new.room.cycle c.put_entry.new.room.cycle c.in-Some.root _ c.requires.ready c.requires.written c.next_cycle.ensures.fills
      (λ s good st. sym (c.root.ensures s good st) ∙ c.in-Some.is)
      c.cycle_start-start.ensures.value c.put_entry.ensures.gives);
  desk = c.requires.desk;
  talkers = c.next_cycle.ensures.talkers;
  nothing = rw c.in-Some-recording_on.is at c.recording_on.ensures.nothing;
  room = room_packets _ _ _ c.requires.room c.next_cycle.ensures.size c.put_entry.ensures.size;
}

pub returns : goal.returns
returns g c =
    let begun = begun_in c.next_cycle.new.room.cycle c.put_entry.new.room.cycle c.in-Some.root _ c.requires.ready c.requires.written c.next_cycle.ensures.fills
    (λ s good st. sym (c.root.ensures s good st) ∙ c.in-Some.is)
    c.cycle_start-start.ensures.value c.put_entry.ensures.gives in
    rw c.keep.ensures (record {
      talkers = c.next_cycle.ensures.talkers;
      still = c.next_cycle.ensures.still;
      fills = cycle_then _ _ c.put_heard.new.heard refl (λ s good st. sym c.in-Some-recording_on.is ∙ c.recording_on.ensures.value s good st) c.put_heard.ensures.same begun c.put_heard.ensures.puts;
    })
