mod RecordSteps
