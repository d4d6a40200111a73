pub mod WireLines
mod ChunkSteps
mod SkipSteps
mod SkipBlockSteps
mod SmallNumbers
mod Tables
mod DecimalSteps
mod NumberLengths
mod WordSteps
mod ValueSteps
mod PaddedWords
mod FieldSteps
mod ShownValues
mod TemplateSteps
mod TemplateIndices
