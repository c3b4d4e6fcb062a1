use Rattle.std.proofs.Common.{◌≡◌, ◌∙◌, ◌≤◌, ap, sym, arith}
use Rattle.std.specs.Prelude.{[], Some, Ok, Err}
use Rattle.cluster_map.specs.Map.{count_of, entries_in, entries_of, first_entries, repeated_after}
use Rattle.cluster_map.specs.declared.fault.MapFault.TheVariants.{WrongLength, WrongMagic, WrongCount, WrongCrc, NamedTwice}
use Rattle.cluster_map.proofs.Said.{has_crc, lacks, said_alone}
use Rattle.cluster_map.proofs.Twice.{repeated_none, repeated_some}
use Rattle.cluster_map.proofs.map.read_map.Goals as goal

pub returns-in_default : goal.returns-in_default
returns-in_default c = said_alone c.args.bytes.now (Err WrongLength) (sym c.places_by.ensures.places ∙ c.in_default.is)

pub returns-then-u32_at-ne-MAGIC : goal.returns-then-u32_at-ne-MAGIC
returns-then-u32_at-ne-MAGIC c =
    said_alone c.args.bytes.now (Err WrongMagic)
    (c.in-Some.places, sym c.places_by.ensures.places ∙ c.in-Some.is, λ e. c.if-u32_at-ne-MAGIC.true (c.u32_at.ensures ∙ e))

pub returns-then-count-places : goal.returns-then-count-places
returns-then-count-places c =
    said_alone c.args.bytes.now (Err (WrongCount c.u32_at-count.result)) (
      c.in-Some.places,
      sym c.places_by.ensures.places ∙ c.in-Some.is,
      sym c.u32_at.ensures ∙ c.if-u32_at-ne-MAGIC.false,
      c.u32_at-count.ensures,
      c.if-count-places.true,
    )

pub returns-then-not-has_crc_behind : goal.returns-then-not-has_crc_behind
returns-then-not-has_crc_behind c =
    let bytes = c.args.bytes.now in
    let few : count_of bytes ≤ c.in-Some.places = omega (arith, c.u32_at-count.ensures, c.if-count-places.false) in
    said_alone bytes (Err WrongCrc) (
      c.in-Some.places,
      sym c.places_by.ensures.places ∙ c.in-Some.is,
      sym c.u32_at.ensures ∙ c.if-u32_at-ne-MAGIC.false,
      few,
      lacks bytes c.in-Some.places (sym c.has_crc_behind.ensures ∙ c.if-not-has_crc_behind.true),
    )

pub returns-in-Some-repeated : goal.returns-in-Some-repeated
returns-in-Some-repeated c =
    let bytes = c.args.bytes.now in
    let few : count_of bytes ≤ c.in-Some.places = omega (arith, c.u32_at-count.ensures, c.if-count-places.false) in
    let all : entries_of c.of_first-map.result ≡ entries_in bytes = c.of_first-map.ensures ∙ ap (first_entries bytes) c.u32_at-count.ensures in
    let twice : repeated_after [] (entries_in bytes) ≡ Some c.in-Some-repeated.oid = ap (repeated_after []) (sym all) ∙ sym c.repeated.ensures ∙ c.in-Some-repeated.is in
    said_alone bytes (Err (NamedTwice c.in-Some-repeated.oid)) (
      c.in-Some.places,
      sym c.places_by.ensures.places ∙ c.in-Some.is,
      sym c.u32_at.ensures ∙ c.if-u32_at-ne-MAGIC.false,
      few,
      has_crc bytes c.in-Some.places (sym c.has_crc_behind.ensures ∙ c.if-not-has_crc_behind.false),
      repeated_some [] (entries_in bytes) c.in-Some-repeated.oid tt twice,
    )

pub returns-in-None : goal.returns-in-None
returns-in-None c =
    let bytes = c.args.bytes.now in
    let few : count_of bytes ≤ c.in-Some.places = omega (arith, c.u32_at-count.ensures, c.if-count-places.false) in
    let all : entries_of c.of_first-map.result ≡ entries_in bytes = c.of_first-map.ensures ∙ ap (first_entries bytes) c.u32_at-count.ensures in
    said_alone bytes (Ok (entries_of c.of_first-map.result)) (record {
      places = c.in-Some.places;
      sized = sym c.places_by.ensures.places ∙ c.in-Some.is;
      begins = sym c.u32_at.ensures ∙ c.if-u32_at-ne-MAGIC.false;
      few = few;
      crc = has_crc bytes c.in-Some.places (sym c.has_crc_behind.ensures ∙ c.if-not-has_crc_behind.false);
      says = all;
      distinct = repeated_none [] (entries_of c.of_first-map.result) (sym c.repeated.ensures ∙ c.in-None.is);
    })
