-- What is derived of the facts of a release, now and next.
-- AreOf F facts R m A        the facts are F; all code points have a record over F, R is these records, and A what is kept of what the
--                            code points ask, by the mentions m
-- IsNow F d                  what the derivation has now is that of the facts F
-- IsNext F d                 what it has next is
-- IsStill d                  its facts next are those now, and so are its records and what is kept of what its code points ask
use Rattle.std.specs.Prelude.{◌≡◌, ℕ, List, Option}
use Rattle.ucd_facts.specs.Facts.{Facts}
use Rattle.ucd_model.specs.Records.{Record, record_at}
use Rattle.ucd_model.specs.ValidityLaws.{IsValid}
use Rattle.ucd_facts.specs.declared.query.Query.{Query}
use Rattle.fact_tables.specs.FactTables.{tables_facts, tables_next}
use Rattle.dependency_map.specs.Maps.{asked_at}
use Rattle.point_store.specs.SlotStore.{values}
use Rattle.mention_index.specs.declared.mentions.Mentions.{Mentions}
use Rattle.paged_table.specs.Paged.{values_next, values_now}
use Rattle.range_table.specs.Values.{SameValues}
use Rattle.record_table.specs.Records.{record_next, record_now}
use Rattle.edit_session.specs.FirstRecords.{SameRecords}
use Rattle.edit_session.specs.Questions.{AreStill, Keeps}
use Rattle.edit_session.specs.declared.derivation.Derivation.{Derivation}

pub record AreOf (F facts : ℕ → Facts) (R : ℕ → Record) (m : Option Mentions) (A : ℕ → List Query) : Type 0 where
  pub same : facts ≡ F
  pub valid : IsValid F
  pub records : SameRecords R (record_at F)
  pub kept : Keeps m A F

abbrev pub IsNow : (ℕ → Facts) → Derivation → Type 0
IsNow F d = AreOf F (tables_facts values_now d.tables) (record_now d.records) d.questions.mentions (asked_at (values values_now) d.questions.map)

abbrev pub IsNext : (ℕ → Facts) → Derivation → Type 0
IsNext F d = AreOf F (tables_next values_now d.tables) (record_next d.records) d.questions.mentions (asked_at (values values_next) d.questions.map)

pub record IsStill (d : Derivation) : Type 0 where
  pub tables : tables_next values_now d.tables ≡ tables_facts values_now d.tables
  pub records : SameValues (record_next d.records) (record_now d.records)
  pub asked : AreStill d.questions
