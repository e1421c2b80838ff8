use Rattle.gts_standby.proofs.Cited.{◌≡◌, ℕ, List, ◌+◌, ◌-◌, ◌≤◌, Bool, true, false, Option, Some, None, Ok, length, drop, refl, sym, ap, subst, ◌∙◌, arith, HasRead, InFeed, IsJudged, IsUnsealed, IsWhole, Version, admits, gate_behind, held, record_of, record_size, seal, seal_size, sealed_at, tells_next, written}
use Rattle.gts_record.specs.Record as texts
use Rattle.gts_standby.proofs.HeaderLemmas.{passed}
use Rattle.gts_standby.proofs.FedLemmas.{sealed_read, none_read, ends_there, found_fits_there}
use Rattle.gts_standby.proofs.AddLemmas.{next_refused, next_none}
use Rattle.gts_standby.proofs.GatherLemmas.{admitted_in, at_gathering, refused_there}
use Rattle.gts_standby.proofs.WholeLemmas.{looked_all}
use Rattle.gts_standby.proofs.gathering.Gathering.gather.Goals as goal

pub returns-in-None-clause-gathered : goal.returns-in-None-clause-gathered
returns-in-None-clause-gathered c = λ s fed left kept read is_end.
    let d = c.args.directory.now in
    let x = c.args.self.now in
    let ahead : InFeed = c.args.ahead.now in
    let enough = subst (λ (v : Version). tells_next v ahead ≡ true) c.requires.going.current c.requires.enough in
    let none : Option texts.Record = None in
    let version : c.version-version.result ≡ written = c.version-version.ensures ∙ c.requires.going.current in
    let here : sealed_at written x.batch.seal ahead.bytes ≡ None =
    at_gathering c.version-version.result x.seal x.batch.seal c.bytes.result.now ahead.bytes none version c.requires.going.seal_is c.bytes.ensures c.in-None.ensures.found in
    let unsealed = subst (λ (v : Version). IsUnsealed c.end_at.result v ahead c.args.at) version c.end_at.ensures in (
      next_none d x.batch.seal s (gate_behind x) fed (none_read written x.batch.seal fed left ahead read enough here),
      ends_there c.end_at.result written fed left ahead c.args.at read enough unsealed,
    )

pub returns-then-not-branch-clause-gathered : goal.returns-then-not-branch-clause-gathered
returns-then-not-branch-clause-gathered c = λ s fed left kept read is_end.
    let d = c.args.directory.now in
    let x = c.args.self.now in
    let ahead : InFeed = c.args.ahead.now in
    let r : texts.Record = record_of c.in-Some.found.0 in
    let some : Option texts.Record = Some r in
    let at = c.behind_gate.result - 1 + c.used.result in
    let version : c.version-version.result ≡ written = c.version-version.ensures ∙ c.requires.going.current in
    let here : sealed_at written x.batch.seal ahead.bytes ≡ Some r =
    at_gathering c.version-version.result x.seal x.batch.seal c.bytes.result.now ahead.bytes some version c.requires.going.seal_is c.bytes.ensures c.in-Some.ensures.found in
    let there = sealed_read written x.batch.seal fed left ahead r read here in
    let gate : at ≡ gate_behind x = omega (arith, c.behind_gate.ensures, c.used.ensures.value) in
    let bad : false ≡ admits written d s (gate_behind x + 1) r =
    admitted_in d s c.args.core.now c.version-version.result at (gate_behind x) r false kept version gate
    (subst (λ (b : Bool). IsJudged c.version-version.result d c.args.core.now at r b) c.if-not-branch.true c.in_ok-admit-in-Some.ensures.judged) in
    (next_refused d x.batch.seal s (gate_behind x) fed r there (sym bad), refused_there c.args.at x.batch.seal fed left r there)

pub pass-requires : goal.pass-requires
pass-requires c =
    let r : texts.Record = record_of c.in-Some.found.0 in
    let v = c.version-version.result in
    let before = held v c.args.self.now.seal in
    let found : sealed_at v before c.args.ahead.now.bytes ≡ Some r = ap (sealed_at v before) (sym c.bytes.ensures) ∙ sym c.in-Some.ensures.found in
    found_fits_there v before c.args.ahead.now.bytes r c.in-Some.found.1 found c.in-Some.ensures.size

pub returns-else-not-branch-clause-gathered : goal.returns-else-not-branch-clause-gathered
returns-else-not-branch-clause-gathered c =
    let d = c.args.directory.now in
    let x = c.args.self.now in
    let ahead : InFeed = c.args.ahead.now in
    let r : texts.Record = record_of c.in-Some.found.0 in
    let some : Option texts.Record = Some r in
    let v = c.version-version.result in
    let at = c.behind_gate.result - 1 + c.used.result in
    let version : v ≡ written = c.version-version.ensures ∙ c.requires.going.current in
    let here : sealed_at written x.batch.seal ahead.bytes ≡ Some r =
    at_gathering v x.seal x.batch.seal c.bytes.result.now ahead.bytes some version c.requires.going.seal_is c.bytes.ensures c.in-Some.ensures.found in
    let gate : at ≡ gate_behind x = omega (arith, c.behind_gate.ensures, c.used.ensures.value) in
    let size : c.in-Some.found.1 ≡ length (texts.record_text r) + seal_size written = c.in-Some.ensures.size ∙ ap (λ (w : Version). length (texts.record_text r) + seal_size w) version in
    let low : c.in-Some.found.1 ≤ length ahead.bytes = found_fits_there written x.batch.seal ahead.bytes r c.in-Some.found.1 here size in
    record {
      r = r;
      fits = c.in-Some.ensures.sound.1;
      size_is = omega (arith, size);
      admitted = λ s kept.
          sym (admitted_in d s c.args.core.now v at (gate_behind x) r true kept version gate
          (subst (λ (b : Bool). IsJudged v d c.args.core.now at r b) c.if-not-branch.false c.in_ok-admit-in-Some.ensures.judged));
      follows = c.in_ok-admit-in-Some.ensures.admitted (ap (λ (b : Bool). Ok b) c.if-not-branch.false);
      journal_is = refl;
      version = c.add.ensures.version;
      gathers = c.add.ensures.gathers;
      long = c.add.ensures.size ∙ ap (λ (w : Version). length x.batch.text + record_size w r) c.requires.going.version;
      seal_is = ap (λ (w : Version). held w c.in-Some.found.2) (sym version) ∙ c.in-Some.ensures.seal
          ∙ ap (λ (w : Version). seal w (held w x.seal) (texts.record_text r)) version ∙ ap (λ (l : List ℕ). seal written l (texts.record_text r)) c.requires.going.seal_is;
      read = λ fed left read. (
        sealed_read written x.batch.seal fed left ahead r read here,
        subst (λ (a : InFeed). HasRead (drop c.in-Some.found.1 fed) a left) (sym c.pass.ensures) (passed fed left ahead c.in-Some.found.1 read low),
      );
    }

pub returns-in-None-clause-whole : goal.returns-in-None-clause-whole
returns-in-None-clause-whole c = λ left w. looked_all c.end_at.result c.version-version.result c.args.ahead.now c.args.at left c.end_at.ensures w

pub returns-else-not-branch-clause-whole : goal.returns-else-not-branch-clause-whole
returns-else-not-branch-clause-whole c = λ left w. subst (λ (a : InFeed). IsWhole a left) (sym c.pass.ensures) w
