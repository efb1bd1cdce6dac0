pub mod Texts
pub mod KeyTexts
pub mod PlaceOrder
pub mod Found
pub mod Apart
pub mod RowRules
pub mod NamelessConflicts
pub mod Growing
pub mod Standing
pub mod Kept
pub mod Faults
pub mod RowsApart
pub mod Operations
pub mod Touched
pub mod MeetingRows
pub mod MeetingEntries
pub mod SpanOrder
pub mod Unchanged
pub mod Order
pub mod Loads
pub mod Tagging
pub mod SharedSpans
pub mod Seeking
pub mod Moved
pub mod Noting
pub mod GapPlaces
pub mod Puts
pub mod Files
pub mod Walks
pub mod Arena
pub mod Cuts
pub mod Reload
pub mod Sound
pub mod Chains
pub mod ConditionTags
pub mod ConditionHashes
pub mod Gathered
mod StoredRows
mod FoundRows
mod FirstOfKey
mod Edited
mod OneRow
mod EntrySpans
mod FirstRows
mod SeekingKeys
mod FilesEdited
mod Backward
mod Leading
mod LeadingFiles
mod TouchedBack
mod Leads
